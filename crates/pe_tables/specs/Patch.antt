-- Bytes with others written over them.
use Rattle.std.specs.Prelude.{ℕ, ℤ, List, ◌++◌, length, take, drop}
use Rattle.std.specs.Int.{bytes_low_first}
use Rattle.pe_view.specs.Number.{num, byte_of}
use Rattle.pe_tables.specs.Fixups.{width_of}
use Rattle.pe_tables.specs.Relocated.{shift}
use Rattle.pe_tables.specs.declared.fixups.FixupKind.{FixupKind}

-- the bytes with these written over them at an offset
unfoldable pub patch : List ℕ → ℕ → List ℕ → List ℕ
patch xs at bs = take at xs ++ (bs ++ drop (length bs) (drop at xs))

-- the lowest bytes of a number
abbrev pub bytes : ℕ → ℕ → List ℕ
bytes width v = bytes_low_first 0 width v

-- the bytes with the field at an offset relocated by d
unfoldable pub shifted_at : ℤ → FixupKind → ℕ → List ℕ → List ℕ
shifted_at d kind at xs = patch xs at (bytes (width_of kind) (shift kind (num (byte_of xs) at (width_of kind)) d))
