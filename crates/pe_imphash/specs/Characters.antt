-- The characters that names of modules and symbols have in an import hash.
use Rattle.std.specs.Prelude.{ℕ, ◌==◌, ◌||◌, Bool, codes}
use Rattle.std.specs.List.{list_any}
use Rattle.std.specs.Char.{is_ascii_alphanumeric}

-- of files and of the folders before them
abbrev pub is_file_character : ℕ → Bool
is_file_character c = is_ascii_alphanumeric c || list_any (λ other. other == c) (codes "!#$%&'()-@^_`{}~+,.;=[]\\/")

abbrev pub is_symbol_character : ℕ → Bool
is_symbol_character c = is_ascii_alphanumeric c || list_any (λ other. other == c) (codes "._?@$()<>")
