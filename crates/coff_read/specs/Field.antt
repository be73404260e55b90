-- The fields of a file's records: little-endian numbers of a width at an offset of the record.
use Rattle.std.specs.Prelude.{ℕ, ◌+◌, List}
use Rattle.pe_view.specs.Number.{num, byte_of}

-- the number in a field of the record at a file offset
unfoldable pub field : List ℕ → ℕ → ℕ → ℕ → ℕ
field file at offset width = num (byte_of file) (at + offset) width
