-- The characters of UTF-16 in bytes.
use Rattle.std.specs.Prelude.{ℕ, ◌+◌, ◌*◌, ◌&&◌, Bool, false, List, [], ◌∷◌}
use Rattle.std.specs.Char.Utf16.{is_high_surrogate, is_low_surrogate, utf16_lossy_chars}

-- the units: two bytes each, the lower first
abbrev pub units : List ℕ → List ℕ
units [] = []
units (low ∷ []) = []
units (low ∷ high ∷ bytes) = (low + 256 * high) ∷ units bytes

-- the characters, with U+FFFD for each surrogate that has no partner
abbrev pub characters : List ℕ → List ℕ
characters bytes = utf16_lossy_chars (units bytes)

-- a unit and the first of others are a pair of surrogates
abbrev pub starts_pair : ℕ → List ℕ → Bool
starts_pair high [] = false
starts_pair high (low ∷ us) = is_high_surrogate high && is_low_surrogate low
