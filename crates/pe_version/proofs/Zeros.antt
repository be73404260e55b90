-- Units up to the first that is 0.
use Rattle.std.proofs.Common.{◌≡◌, ℕ, zero, suc, ◌+◌, ◌-◌, ◌<◌, List, ap, refl, arith}
use Rattle.std.proofs.lemmas.Bool.{ne_eqb}
use Rattle.pe_version.specs.Blocks.{word}
use Rattle.pe_version.specs.Parts.{units_before_zero}

-- one that is not 0
pub zero_after : (bytes : List ℕ) (at count : ℕ) → 0 < count → (word bytes at ≡ 0 → ⊥) → units_before_zero bytes at count ≡ suc (units_before_zero bytes (at + 2) (count - 1))
zero_after bytes at zero some not_zero = absurd (omega (arith, some))
zero_after bytes at (suc count) some not_zero = rw (ne_eqb (word bytes at) 0 not_zero) (ap (λ (n : ℕ). suc (units_before_zero bytes (at + 2) n)) (omega arith))

-- one that is
pub zero_here : (bytes : List ℕ) (at count : ℕ) → word bytes at ≡ 0 → units_before_zero bytes at count ≡ 0
zero_here bytes at zero is = refl
zero_here bytes at (suc count) is = rw is refl
