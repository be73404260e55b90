-- The characters of units, one at a time.
use Rattle.std.proofs.Common.{◌≡◌, refl, ℕ, true, false, List, [], ◌∷◌}
use Rattle.std.specs.Prelude.{◌&&◌, unwrap_or}
use Rattle.std.specs.Char.Utf16.{is_high_surrogate, is_low_surrogate, lone_unit_char, surrogate_pair_char, utf16_chars, utf16_lossy_chars}
use Rattle.pe_version.specs.Units.{starts_pair}

pub of_pair : (high low : ℕ) (us : List ℕ) → (is_high_surrogate high && is_low_surrogate low) ≡ true
    → utf16_lossy_chars (high ∷ low ∷ us) ≡ surrogate_pair_char high low ∷ utf16_lossy_chars us
unfolding utf16_chars
of_pair high low us pair = rw pair refl

pub of_lone : (u : ℕ) (us : List ℕ) → starts_pair u us ≡ false → utf16_lossy_chars (u ∷ us) ≡ unwrap_or (lone_unit_char u) 0xfffd ∷ utf16_lossy_chars us
unfolding utf16_chars
of_lone u [] lone = refl
of_lone u (v ∷ us) lone = rw lone refl

pub of_none : utf16_lossy_chars [] ≡ []
unfolding utf16_chars
of_none = refl
