-- What holds of each element of lists that are made of others, by recursion.
use Rattle.std.proofs.Common.{◌≡◌, ◌+◌, ◌<◌, ◌≤◌, ℕ, zero, suc, Bool, true, false, cond, List, [], ◌∷◌, ◌++◌, Option, None, Some, refl, sym, subst, arith, inl, inr}
use Rattle.std.specs.Prelude.{option_to_list, filter}
use Rattle.std.specs.List.{filter_map, flat_map, range_with_len}
use Rattle.std.proofs.lemmas.Bool.{cases_eq}
use Rattle.pe_view.specs.Faults.{Test, first_standing}
use Rattle.pe_view.specs.FirstStanding.{none-append}
use Rattle.pe_tables.proofs.Entries.{filter_map-cons}

abbrev pub Each : {X : Type 0} → (X → Type 0) → List X → Type 0
Each P [] = Unit {0}
Each P (x ∷ xs) = P x × Each P xs

each_append : {X : Type 0} (P : X → Type 0) (xs ys : List X) → Each P xs → Each P ys → Each P (xs ++ ys)
each_append P [] ys e f = f
each_append P (x ∷ xs) ys e f = (e.0, each_append P xs ys e.1 f)

each_option : {Y : Type 0} (P : Y → Type 0) (o : Option Y) → ((y : Y) → o ≡ Some y → P y) → Each P (option_to_list o)
each_option P None f = tt
each_option P (Some y) f = (f y refl, tt)

-- of what some elements give
pub each_some : {X Y : Type 0} (Q : X → Type 0) (P : Y → Type 0) (f : X → Option Y) → ((x : X) (y : Y) → Q x → f x ≡ Some y → P y) → (xs : List X) → Each Q xs → Each P (filter_map f xs)
each_some Q P f step [] e = tt
each_some Q P f step (x ∷ xs) e =
    subst (Each P) (sym (filter_map-cons f x xs))
    (each_append P (option_to_list (f x)) (filter_map f xs) (each_option P (f x) (λ y is. step x y e.0 is)) (each_some Q P f step xs e.1))

each_kept : {X : Type 0} (P : X → Type 0) (x : X) (rest : List X) (b : Bool) → P x → Each P rest → Each P (cond b (x ∷ rest) rest)
each_kept P x rest true p e = (p, e)
each_kept P x rest false p e = e

pub each_filter : {X : Type 0} (P : X → Type 0) (test : X → Bool) (xs : List X) → Each P xs → Each P (filter test xs)
each_filter P test [] e = tt
each_filter P test (x ∷ xs) e = each_kept P x (filter test xs) (test x) e.0 (each_filter P test xs e.1)

-- of numbers in a row
pub each_range : (P : ℕ → Type 0) (from n k : ℕ) → Each P (range_with_len from n) → from ≤ k → k < from + n → P k
each_range P from zero k e low high = absurd (omega arith)
each_range P from (suc n) k e low high = elim (cases_eq from k) [
  | inl here ↦ subst P here e.0
  | inr ne ↦ each_range P (from + 1) n k e.1 (omega (arith, ne)) (omega arith)
]

-- no test of any of some items holds
pub flat_none : {X : Type 0} (f : X → List Test) (xs : List X) → first_standing (flat_map f xs) ≡ None → Each (λ x. first_standing (f x) ≡ None) xs
flat_none f [] none = tt
flat_none f (x ∷ xs) none = let parts = none-append (f x) (flat_map f xs) none in (parts.0, flat_none f xs parts.1)
