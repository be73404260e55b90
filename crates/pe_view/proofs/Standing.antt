-- What the first fault of a list of tests means.
use Rattle.std.proofs.Common.{◌≡◌, ℕ, zero, suc, ◌<◌, Bool, true, false, cond, List, [], ◌∷◌, Option, Some, None, refl, sym, ap, ◌∙◌, arith, inl, inr, ◌⊎◌}
use Rattle.std.specs.Prelude.{slice_get, ◌↔◌}
use Rattle.std.proofs.lemmas.Option.{same_Some}
use Rattle.pe_view.specs.declared.fault.Fault.{Fault}
use Rattle.pe_view.specs.Faults.{Test, first_standing, IsFirstStanding, NoneStands}
use Rattle.pe_view.specs.FirstStanding.{none_stands}

pub none_first : (tests : List Test) → NoneStands tests → first_standing tests ≡ None
none_first [] none = refl
none_first (t ∷ tests) none =
    let here : t.stands ≡ false = none 0 t refl in
    rw here (none_first tests (λ k q at. none (suc k) q at))

pub none_iff : (tests : List Test) → (first_standing tests ≡ None) ↔ NoneStands tests
none_iff tests = ((λ none k t at. none_stands tests k t none at), none_first tests)

first_here : (t : Test) (tests : List Test) (y : Fault) → t.stands ≡ true → t.fault ≡ y → IsFirstStanding (t ∷ tests) y
first_here t tests y stands is =
    record { place = 0; test = t; there = refl; stands = stands; its_fault = is; none_before = λ k q lt at. absurd (omega arith) }

none_before_more : (t : Test) (tests : List Test) (place : ℕ) → t.stands ≡ false → ((k : ℕ) (q : Test) → k < place → slice_get tests k ≡ Some q → q.stands ≡ false) → (k : ℕ) (q : Test) → k < suc place → slice_get (t ∷ tests) k ≡ Some q → q.stands ≡ false
none_before_more t tests place stands before zero q lt at = ap (λ (x : Test). x.stands) (sym (same_Some t q at)) ∙ stands
none_before_more t tests place stands before (suc k) q lt at = before k q (omega arith) at

first_there : (t : Test) (tests : List Test) (y : Fault) → t.stands ≡ false → IsFirstStanding tests y → IsFirstStanding (t ∷ tests) y
first_there t tests y stands l =
    record { place = suc l.place; test = l.test; there = l.there; stands = l.stands; its_fault = l.its_fault; none_before = none_before_more t tests l.place stands l.none_before }

some_test : (b : Bool) (x y : Fault) (rest : Option Fault) → cond b (Some x) rest ≡ Some y → ((b ≡ true) × (x ≡ y)) ⊎ ((b ≡ false) × (rest ≡ Some y))
some_test true x y rest e = inl (refl, same_Some x y e)
some_test false x y rest e = inr (refl, e)

-- the first fault is that of a test that holds, and no earlier test holds
pub first_is_first : (tests : List Test) (y : Fault) → first_standing tests ≡ Some y → IsFirstStanding tests y
first_is_first [] y e = absurd cc
first_is_first (t ∷ tests) y e =
    let later = first_is_first tests y in
    elim (some_test t.stands _ y (first_standing tests) e) [
      | inl here ↦ first_here t tests y here.0 here.1
      | inr there ↦ first_there t tests y there.0 (later there.1)
    ]
