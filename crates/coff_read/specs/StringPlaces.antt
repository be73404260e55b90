-- The strings of a string table, by their offsets.
use Rattle.std.specs.Prelude.{◌≡◌, ◌==◌, ℕ, ◌+◌, ◌<◌, ◌≤◌, List, [], ◌∷◌, ◌++◌, length, false}
use Rattle.std.specs.List.{list_any}
use Rattle.pe_view.specs.Number.{part}
use Rattle.coff_read.specs.Strings.{strings_start, strings_size}

-- The string and then a zero byte are at an offset of the table, after its size field and inside it; the string has no zero byte.
pub record IsString (file : List ℕ) (offset : ℕ) (text : List ℕ) : Type 0 where
  pub behind_size : 4 ≤ offset
  pub bytes : part file (strings_start file + offset) (length text + 1) ≡ text ++ 0 ∷ []
  pub no_zero : list_any (λ byte. byte == 0) text ≡ false
  pub in_table : offset + length text < strings_size file
  pub in_file : strings_start file + strings_size file ≤ length file
