-- The elements of a list after optional values.
use Rattle.std.proofs.Common.{◌≡◌, ℕ, zero, suc, ◌<◌, List, [], ◌∷◌, length, get_or, Option, Some, None, refl, sym, ap, subst, arith, inl, inr, ◌⊎◌}
use Rattle.std.specs.Prelude.{Contains}
use Rattle.std.specs.List.{cons_option}

pub nothing : {X : Type 0} (x : X) → Contains {X = X} [] x → ⊥
nothing x has = omega (arith, has.1)

pub first_at : {X : Type 0} (x y : X) (xs : List X) (k : ℕ) → k < length (x ∷ xs) → get_or (x ∷ xs) k y ≡ y → (x ≡ y) ⊎ Contains xs y
first_at x y xs zero lt is = inl is
first_at x y xs (suc k) lt is = inr (k, omega arith, is)

-- an element of some of the values, or of those after
pub onto_cases : {X : Type 0} (o : Option X) (xs : List X) (y : X) → Contains (cons_option o xs) y → (o ≡ Some y) ⊎ Contains xs y
onto_cases None xs y has = inr has
onto_cases (Some x) xs y has = elim (first_at x y xs has.0 has.1 has.2) [
  | inl is ↦ inl (ap (λ z. Some z) is)
  | inr later ↦ inr later
]

pub onto_here : {X : Type 0} (o : Option X) (xs : List X) (y : X) → o ≡ Some y → Contains (cons_option o xs) y
onto_here o xs y is = subst (λ p. Contains (cons_option p xs) y) (sym is) (0, omega arith, refl)

pub onto_later : {X : Type 0} (o : Option X) (xs : List X) (y : X) → Contains xs y → Contains (cons_option o xs) y
onto_later None xs y has = has
onto_later (Some x) xs y has = let lt = has.1 in (suc has.0, omega arith, has.2)
