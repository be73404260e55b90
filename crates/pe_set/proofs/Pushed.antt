-- The places of a list with one more at its end.
use Rattle.std.proofs.Common.{◌≡◌, ◌<◌, ◌⊎◌, ◌++◌, ℕ, zero, suc, List, [], ◌∷◌, length, Some, refl, sym, arith, inl, inr}
use Rattle.std.specs.Prelude.{slice_get}
use Rattle.std.proofs.lemmas.Option.{same_Some}

pub of_pushed : {X : Type 0} (xs : List X) (y x : X) (i : ℕ) → slice_get (xs ++ y ∷ []) i ≡ Some x → ((i < length xs) × (slice_get xs i ≡ Some x)) ⊎ ((i ≡ length xs) × (x ≡ y))
of_pushed [] y x zero is = inr (refl, sym (same_Some y x is))
of_pushed [] y x (suc i) is = absurd cc
of_pushed (z ∷ xs) y x zero is = inl (omega arith, is)
of_pushed (z ∷ xs) y x (suc i) is = elim (of_pushed xs y x i is) [
  | inl early ↦ (let lt = early.0 in inl (omega (arith, lt), early.1))
  | inr last ↦ (let e = last.0 in inr (omega (arith, e), last.1))
]

pub in_pushed : {X : Type 0} (xs : List X) (y x : X) (i : ℕ) → slice_get xs i ≡ Some x → slice_get (xs ++ y ∷ []) i ≡ Some x
in_pushed [] y x i is = absurd cc
in_pushed (z ∷ xs) y x zero is = is
in_pushed (z ∷ xs) y x (suc i) is = in_pushed xs y x i is

pub last_pushed : {X : Type 0} (xs : List X) (y : X) → slice_get (xs ++ y ∷ []) (length xs) ≡ Some y
last_pushed [] y = refl
last_pushed (z ∷ xs) y = last_pushed xs y
