-- Faults as ordered lists of tests. A list has its tests in the order of priority, and a file is refused with the fault of the
-- first test that holds.
use Rattle.std.specs.Prelude.{◌≡◌, ℕ, ◌<◌, Bool, true, false, List, [], ◌∷◌, slice_get, Option, None, Some, Result, Ok, Err, if◌then◌else◌}
use Rattle.pe_view.specs.declared.fault.Fault.{Fault}
use Rattle.pe_view.specs.declared.fault.Place.{Place}
use Rattle.pe_view.specs.declared.refusal.Refusal.{Refusal}
use Rattle.pe_view.specs.declared.refusal.Refusal.TheVariants as refusals

-- whether the rule is broken
pub record Test : Type 0 where
  pub stands : Bool
  pub fault : Fault

-- a test by its parts: the fault's number, its place in an image, and the condition
abbrev pub test : ℕ → ℕ → Place → Bool → Test
test number image place stands = record { stands = stands; fault = record { number = number; image = image; place = place } }

-- the fault of the first test that holds
abbrev pub first_standing : List Test → Option Fault
first_standing [] = None
first_standing (t ∷ ts) = if t.stands then Some t.fault else first_standing ts

-- Ok with a value that has the property exactly if no test holds; otherwise the first fault
abbrev pub Answers : {X : Type 0} → List Test → (X → Type 0) → Result X Fault → Type 0
Answers tests P (Ok x) = (first_standing tests ≡ None) × P x
Answers tests P (Err fault) = first_standing tests ≡ Some fault

-- the first fault, or out of memory
abbrev pub Refuses : List Test → Refusal → Type 0
Refuses tests refusals.Memory = Unit {0}
Refuses tests (refusals.Fault fault) = first_standing tests ≡ Some fault

-- Ok with a value that has the property only if no test holds; otherwise the first fault, or out of memory
abbrev pub AnswersOrWants : {X : Type 0} → List Test → (X → Type 0) → Result X Refusal → Type 0
AnswersOrWants tests P (Ok x) = (first_standing tests ≡ None) × P x
AnswersOrWants tests P (Err refusal) = Refuses tests refusal

-- the fault is that of a test that holds, and no earlier test holds
pub record IsFirstStanding (tests : List Test) (fault : Fault) : Type 0 where
  pub place : ℕ
  pub test : Test
  pub there : slice_get tests place ≡ Some test
  pub stands : test.stands ≡ true
  pub its_fault : test.fault ≡ fault
  pub none_before : (k : ℕ) (before : Test) → k < place → slice_get tests k ≡ Some before → before.stands ≡ false

-- no test holds
abbrev pub NoneStands : List Test → Type 0
NoneStands tests = (k : ℕ) (t : Test) → slice_get tests k ≡ Some t → t.stands ≡ false
