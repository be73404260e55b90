-- The symbols of an object's dump, by the records of the file's symbol table.
use Rattle.std.specs.Prelude.{ℕ, ◌+◌, List, ◌++◌, flat_map}
use Rattle.std.specs.List.{range_with_len}
use Rattle.pe_view.specs.Number.{part}
use Rattle.coff_read.specs.FormAuxiliary.{aux_of}
use Rattle.coff_read.specs.FormReading.{aux_count, record_start, symbol_at}
use Rattle.coff_read.specs.Forms.{Form, symbol_len}
use Rattle.coff_lines.specs.ObjectLines.{symbol_line, aux_line}

-- the line of the auxiliary record with an index, in the format for the symbol that record k begins
abbrev pub aux_record_line : Form → List ℕ → ℕ → ℕ → List ℕ
aux_record_line big file k index =
    aux_line index (aux_of big (symbol_at big file (record_start big file k)) (part file (record_start big file index) (symbol_len big)))

-- the lines of the symbol that record k begins and of the auxiliary records after it, each with its own index
abbrev pub record_lines : Form → List ℕ → ℕ → List ℕ
record_lines big file k =
    symbol_line big k (symbol_at big file (record_start big file k))
    ++ flat_map (aux_record_line big file k) (range_with_len (k + 1) (aux_count big file k))
