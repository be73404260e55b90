-- The first fault of a list of tests, part by part; proofs of many crates use it.
use Rattle.std.proofs.Common.{◌≡◌, ℕ, zero, suc, ◌+◌, ◌-◌, ◌≤◌, Bool, true, false, cond, List, [], ◌∷◌, ◌++◌, drop, Option, Some, None, refl, sym, ap, ◌∙◌, arith}
use Rattle.std.specs.Prelude.{slice_range, slice_get}
use Rattle.std.specs.Option.{option_or}
use Rattle.std.proofs.lemmas.Option.{same_Some}
use Rattle.std.proofs.lemmas.List.{drop-drop, take-append-drop}
use Rattle.pe_view.specs.declared.fault.Fault.{Fault}
use Rattle.pe_view.specs.declared.refusal.Refusal.{Refusal}
use Rattle.pe_view.specs.declared.refusal.Refusal.TheVariants as refusals
use Rattle.pe_view.specs.Faults.{Test, first_standing, Refuses}

or_test : (b : Bool) (y : Fault) (front rest both : Option Fault) → both ≡ option_or front rest → cond b (Some y) both ≡ option_or (cond b (Some y) front) rest
or_test true y front rest both e = refl
or_test false y front rest both e = e

-- of two lists
pub first-append : (front rest : List Test) → first_standing (front ++ rest) ≡ option_or (first_standing front) (first_standing rest)
first-append [] rest = refl
first-append (t ∷ front) rest = or_test t.stands _ _ _ _ (first-append front rest)

-- of two lists, the first of which has no fault
pub first-past : (front rest : List Test) → first_standing front ≡ None → first_standing (front ++ rest) ≡ first_standing rest
first-past front rest none = first-append front rest ∙ ap (λ (o : Option Fault). option_or o (first_standing rest)) none

-- of two lists, the first of which has a fault
pub first-in : (front rest : List Test) (y : Fault) → first_standing front ≡ Some y → first_standing (front ++ rest) ≡ Some y
first-in front rest y some = first-append front rest ∙ ap (λ (o : Option Fault). option_or o (first_standing rest)) some

-- two lists, the first of which refuses
pub refused-in : (front rest : List Test) (refusal : Refusal) → Refuses front refusal → Refuses (front ++ rest) refusal
refused-in front rest refusals.Memory refused = tt
refused-in front rest (refusals.Fault y) refused = first-in front rest y refused

-- two lists, the second of which refuses
pub refused-past : (front rest : List Test) (refusal : Refusal) → first_standing front ≡ None → Refuses rest refusal → Refuses (front ++ rest) refusal
refused-past front rest refusals.Memory none refused = tt
refused-past front rest (refusals.Fault y) none refused = first-past front rest none ∙ refused

none_test : (b : Bool) (y : Fault) (rest : Option Fault) → cond b (Some y) rest ≡ None → (b ≡ false) × (rest ≡ None)
none_test true y rest none = absurd cc
none_test false y rest none = (refl, none)

-- both parts of a list without a fault have none
pub none-append : (front rest : List Test) → first_standing (front ++ rest) ≡ None → (first_standing front ≡ None) × (first_standing rest ≡ None)
none-append [] rest none = (refl, none)
none-append (t ∷ front) rest none =
    let here = none_test t.stands _ (first_standing (front ++ rest)) none in
    let there = none-append front rest here.1 in
    (rw here.0 there.0, there.1)

split : (tests : List Test) (i j : ℕ) → i ≤ j → drop i tests ≡ slice_range tests i j ++ drop j tests
split tests i j le =
    let k : i + (j - i) ≡ j = omega arith in
    sym (take-append-drop (j - i) (drop i tests)) ∙ ap (λ (rest : List Test). slice_range tests i j ++ rest) (drop-drop (j - i) i tests ∙ ap (λ (n : ℕ). drop n tests) k)

-- the tests from i on, if none before j holds
pub first-step : (tests : List Test) (i j : ℕ) → i ≤ j → first_standing (slice_range tests i j) ≡ None → first_standing (drop i tests) ≡ first_standing (drop j tests)
first-step tests i j le none = ap first_standing (split tests i j le) ∙ first-past (slice_range tests i j) (drop j tests) none

-- the tests from i on, if one before j holds
pub first-stop : (tests : List Test) (i j : ℕ) (y : Fault) → i ≤ j → first_standing (slice_range tests i j) ≡ Some y → first_standing (drop i tests) ≡ Some y
first-stop tests i j y le some = ap first_standing (split tests i j le) ∙ first-in (slice_range tests i j) (drop j tests) y some

-- no test of a list without a fault holds
pub none_stands : (tests : List Test) (k : ℕ) (t : Test) → first_standing tests ≡ None → slice_get tests k ≡ Some t → t.stands ≡ false
none_stands [] k t none at = absurd cc
none_stands (q ∷ tests) zero t none at = ap (λ (x : Test). x.stands) (sym (same_Some q t at)) ∙ (none_test q.stands _ (first_standing tests) none).0
none_stands (q ∷ tests) (suc k) t none at = none_stands tests k t (none_test q.stands _ (first_standing tests) none).1 at
