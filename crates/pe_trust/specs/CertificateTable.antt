-- Directory 4: the file offset and the size of the certificate table.
use Rattle.std.specs.Prelude.{◌==◌, ◌||◌, Bool, Option, None, Some, slice_get, if◌then◌else◌}
use Rattle.pe_head.specs.declared.directory.Directory.{Directory}
use Rattle.pe_head.specs.declared.headers.Headers.{Headers}

-- a directory tells of no table if its offset or its size is 0
abbrev pub is_absent : Directory → Bool
is_absent t = (t.rva == 0) || (t.size == 0)

abbrev pub present : Option Directory → Option Directory
present None = None
present (Some t) = if is_absent t then None else Some t

-- the table of headers that hold a directory 4 which tells of one
abbrev pub certificate_table : Headers → Option Directory
certificate_table h = present (slice_get h.directories.items 4)
