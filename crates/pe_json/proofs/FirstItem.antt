-- The first item of a list that passes a test, among those that are left.
use Rattle.std.proofs.Common.{◌≡◌, ◌+◌, ℕ, zero, suc, Bool, true, false, List, [], ◌∷◌, drop, Some, sym, ap, add-one, ◌∙◌}
use Rattle.std.specs.Prelude.{find, cond, slice_get}

-- it is the item at this place
pub found-here : {X : Type 0} (test : X → Bool) (xs : List X) (i : ℕ) (x : X) → Some x ≡ slice_get xs i → test x ≡ true → Some x ≡ find test (drop i xs)
found-here test [] i x is passes = absurd cc
found-here test (y ∷ xs) zero x is passes =
    let same : x ≡ y = cc in
    sym (ap (λ b. cond b (Some y) (find test xs)) (ap test (sym same) ∙ passes) ∙ ap Some (sym same))
found-here test (y ∷ xs) (suc i) x is passes = found-here test xs i x is passes

-- it is not
not-after : {X : Type 0} (test : X → Bool) (xs : List X) (i : ℕ) (x : X) → Some x ≡ slice_get xs i → test x ≡ false → find test (drop (suc i) xs) ≡ find test (drop i xs)
not-after test [] i x is fails = absurd cc
not-after test (y ∷ xs) zero x is fails =
    let same : x ≡ y = cc in
    sym (ap (λ b. cond b (Some y) (find test xs)) (ap test (sym same) ∙ fails))
not-after test (y ∷ xs) (suc i) x is fails = not-after test xs i x is fails

pub not-here : {X : Type 0} (test : X → Bool) (xs : List X) (i : ℕ) (x : X) → Some x ≡ slice_get xs i → test x ≡ false → find test (drop (i + 1) xs) ≡ find test (drop i xs)
not-here test xs i x is fails = ap (λ n. find test (drop n xs)) (add-one i) ∙ not-after test xs i x is fails
