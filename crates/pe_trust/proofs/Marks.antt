-- The last word that is a mark, one step of its search.
use Rattle.std.proofs.Common.{◌≡◌, refl, ℕ, zero, suc, ◌-◌, ◌<◌, ◌≤◌, List, cond, true, false, arith}
use Rattle.std.specs.Prelude.{◌==◌, None, Some, bit_xor}
use Rattle.std.proofs.lemmas.Bool.{le-leb, lt-leb}
use Rattle.pe_trust.specs.Rich.{last_mark, word}

pub mark_step : (file : List ℕ) (key mark index : ℕ) → 16 < index
    → last_mark file key mark index ≡ cond (bit_xor (word file (index - 1)) key == mark) (Some (index - 1)) (last_mark file key mark (index - 1))
mark_step file key mark zero behind = absurd (omega (arith, behind))
mark_step file key mark (suc k) behind =
    let from : 16 ≤ k = omega (arith, behind) in
    let e : suc k - 1 ≡ k = omega arith in
    rw (e, le-leb 16 k from) refl

pub mark_here : (file : List ℕ) (key mark index : ℕ) → 16 < index → (bit_xor (word file (index - 1)) key == mark) ≡ true → last_mark file key mark index ≡ Some (index - 1)
mark_here file key mark index behind is = rw (mark_step file key mark index behind, is) refl

pub mark_before : (file : List ℕ) (key mark index : ℕ) → 16 < index → (bit_xor (word file (index - 1)) key == mark) ≡ false → last_mark file key mark index ≡ last_mark file key mark (index - 1)
mark_before file key mark index behind is = rw (mark_step file key mark index behind, is) refl

pub none_below : (file : List ℕ) (key mark index : ℕ) → index ≤ 16 → last_mark file key mark index ≡ None
none_below file key mark zero first = refl
none_below file key mark (suc k) first =
    let less : k < 16 = omega (arith, first) in
    rw (lt-leb 16 k less) (none_below file key mark k (omega (arith, first)))
