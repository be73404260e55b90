-- Texts of UTF-16 units.
use Rattle.std.specs.Prelude.{ℕ, zero, suc, ◌+◌, ◌==◌, List, [], ◌∷◌, if◌then◌else◌}
use Rattle.std.specs.List.{flat_map}
use Rattle.pe_version.specs.Blocks.{word}

-- how many of so many units at an offset come before the first that is 0
abbrev pub units_before_zero : List ℕ → ℕ → ℕ → ℕ
units_before_zero bytes at zero = 0
units_before_zero bytes at (suc count) = if word bytes at == 0 then 0 else suc (units_before_zero bytes (at + 2) count)

-- the bytes of the units of a text in ASCII
abbrev pub utf16 : List ℕ → List ℕ
utf16 text = flat_map (λ c. c ∷ 0 ∷ []) text
