-- All rules of a table that are broken, as its findings tell them.
use Rattle.std.specs.Prelude.{◌≡◌, ◌≢◌, ℕ, Bool, List, [], ◌∷◌, ◌++◌, Result, Ok, Err, if◌then◌else◌}
use Rattle.pe_view.specs.declared.fault.Fault.{Fault}
use Rattle.pe_view.specs.declared.fault.Place.{Place}
use Rattle.pe_view.specs.Faults.{Test, test}

-- the findings: of each test that holds, in the order of the tests
abbrev pub standing : List Test → List Fault
standing [] = []
standing (t ∷ ts) = if t.stands then t.fault ∷ standing ts else standing ts

-- the tests of one place, each by its number and its condition
abbrev pub tests_at : ℕ → Place → List (ℕ × Bool) → List Test
tests_at image place [] = []
tests_at image place (r ∷ rs) = test r.0 image place r.1 ∷ tests_at image place rs

-- a call that adds findings: it has added those of the tests, or it is out of memory, and there is one to add
abbrev pub Adds : {E : Type 0} → List Test → List Fault → List Fault → Result (Unit {0}) E → Type 0
Adds tests old new (Ok done) = new ≡ old ++ standing tests
Adds tests old new (Err error) = standing tests ≢ []
