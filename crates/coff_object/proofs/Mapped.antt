-- The first of the elements that a view makes of a list's.
use Rattle.std.proofs.Common.{◌≡◌, ℕ, ◌+◌, Bool, cond, sym, List, [], ◌∷◌, Some, None, refl, ap, ◌∙◌, inl, inr}
use Rattle.std.specs.Prelude.{map, position, not, nat_lt, length}
use Rattle.std.specs.List.{prefix_len}
use Rattle.std.proofs.lemmas.List.{length-map}
use Rattle.std.proofs.lemmas.Bool.{cases_Bool}

prefix-map : {X Y : Type 0} (view : X → Y) (test : Y → Bool) (xs : List X) → prefix_len (λ x. test (view x)) xs ≡ prefix_len test (map view xs)
prefix-map view test [] = refl
prefix-map view test (x ∷ xs) = elim (cases_Bool (test (view x))) [
  | inl yes_is ↦ rw yes_is (ap (λ (n : ℕ). 1 + n) (prefix-map view test xs))
  | inr no_is ↦ rw no_is refl
]

pub position-map : {X Y : Type 0} (view : X → Y) (test : Y → Bool) (xs : List X) → position (λ x. test (view x)) xs ≡ position test (map view xs)
position-map view test xs =
    let n : ℕ = prefix_len (λ x. not (test (view x))) xs in
    ap (λ (m : ℕ). cond (nat_lt n m) (Some n) None) (sym (length-map xs view))
    ∙ ap (λ (k : ℕ). cond (nat_lt k (length (map view xs))) (Some k) None) (prefix-map view (λ y. not (test y)) xs)
