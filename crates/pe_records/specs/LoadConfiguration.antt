-- The load configuration ("PE Format", The Load Configuration Structure). Its first field, Size, says how many bytes it has; the Size
-- of its directory is not used.
use Rattle.std.specs.Prelude.{ℕ, List, Option, None, Some, option_map}
use Rattle.pe_head.specs.declared.directory.Directory.{Directory}
use Rattle.pe_layout.specs.Image.{LaidOut}
use Rattle.pe_records.specs.Records.{raw_bytes}
use Rattle.pe_records.specs.Structure.{number_in, structure_bytes}

-- the field Size, if the file holds it
abbrev pub size_at : LaidOut → ℕ → Option ℕ
size_at i rva = number_in 4 (raw_bytes i rva) 0

abbrev pub load_bytes_at : LaidOut → Option Directory → Option (List ℕ)
load_bytes_at i None = None
load_bytes_at i (Some d) = option_map (structure_bytes i d.rva) (size_at i d.rva)

-- the bytes of the load configuration, if it has a field Size
abbrev pub load_bytes : LaidOut → Option (List ℕ)
load_bytes i = load_bytes_at i (i.directory 10)
