-- The errors by which sets are refused: the first fault, and of a cycle of forwarders also how long it is.
use Rattle.std.specs.Prelude.{◌≡◌, ℕ, List, [], ◌∷◌, ◌++◌, Option, Some, None, Result, Ok, Err, if◌then◌else◌, slice_get}
use Rattle.std.specs.List.{flat_map}
use Rattle.pe_view.specs.declared.fault.Fault.{Fault}
use Rattle.pe_view.specs.declared.fault.Place.TheVariants.{Rva}
use Rattle.pe_view.specs.Faults.{Test}
use Rattle.pe_tables.specs.Imports.{Import}
use Rattle.pe_set.specs.Numbered.{numbered}
use Rattle.pe_set.specs.Search.{resolve}
use Rattle.pe_set.specs.SearchEnds.{EndsAs}
use Rattle.pe_set.specs.Set.{Entry, Module, modules_of}
use Rattle.pe_set.specs.SetFaults.{is_strict, names_tests, files_tests, places_tests}
use Rattle.pe_set.specs.declared.entry.Policy.{Policy}
use Rattle.pe_set.specs.declared.search.Resolution.{Resolution}
use Rattle.pe_set.specs.declared.search.Resolution.TheVariants.{Bound, Missing, Unknown, Endless}
use Rattle.pe_set.specs.declared.error.MapError.{MapError}
use Rattle.pe_set.specs.declared.error.MapError.TheVariants as errors

-- the fault of an import of image i, at its slot
abbrev pub slot_fault : ℕ → ℕ → ℕ → Fault
slot_fault number i slot = record { number = number; image = i; place = Rva slot }

-- the error of an import whose search ends in this way; fault 50 is a cycle with its length
abbrev pub end_errors : Policy → ℕ → ℕ → Resolution → List MapError
end_errors policy i slot (Bound image rva) = []
end_errors policy i slot Missing = if is_strict policy then errors.Fault (slot_fault 48 i slot) ∷ [] else []
end_errors policy i slot Unknown = errors.Fault (slot_fault 49 i slot) ∷ []
end_errors policy i slot (Endless length) = errors.Cycle (slot_fault 50 i slot) length ∷ []

abbrev pub import_errors : Policy → List Module → ℕ → Import → List MapError
import_errors policy s i x = end_errors policy i x.slot (resolve s x.module_name x.key)

-- by image, and then in the order of its imports
unfoldable pub imports_errors : Policy → List Module → List MapError
imports_errors policy s = numbered (λ i (m : Module). flat_map (import_errors policy s i) m.imports) 0 s

abbrev pub first_error : List MapError → Option MapError
first_error [] = None
first_error (error ∷ later) = Some error

-- the faults of tests, as errors
abbrev pub faults_in : List Test → List MapError
faults_in [] = []
faults_in (t ∷ ts) = if t.stands then errors.Fault t.fault ∷ faults_in ts else faults_in ts

-- all errors of a set, in order: of its names, of its files, of its places, of its imports
unfoldable pub set_errors : Policy → List Entry → List MapError
set_errors policy es =
    faults_in (names_tests es)
    ++ (faults_in (files_tests es)
    ++ (faults_in (places_tests (modules_of es))
    ++ imports_errors policy (modules_of es)))

-- the first error of a set
abbrev pub set_error : Policy → List Entry → Option MapError
set_error policy es = first_error (set_errors policy es)

-- an error is this one, or out of memory
abbrev pub ErrorIs : Option MapError → MapError → Type 0
ErrorIs first errors.Memory = Unit {0}
ErrorIs first (errors.Fault fault) = first ≡ Some (errors.Fault fault)
ErrorIs first (errors.Cycle fault length) = first ≡ Some (errors.Cycle fault length)

-- Ok, with a value that has the property, only if there is no error; otherwise the error, or out of memory
abbrev pub SetAnswers : {X : Type 0} → Option MapError → (X → Type 0) → Result X MapError → Type 0
SetAnswers first P (Ok x) = (first ≡ None) × P x
SetAnswers first P (Err error) = ErrorIs first error

-- ---- the import of a cycle
-- import number `index` of an image has the fault at its slot, and the search for it never ends, in a cycle of this length
pub record IsCycleOf (s : List Module) (fault : Fault) (length : ℕ) : Type 0 where
  pub image : ℕ
  pub importer : Module
  pub importer_at : slice_get s image ≡ Some importer
  pub index : ℕ
  pub import : Import
  pub import_at : slice_get importer.imports index ≡ Some import
  pub fault_is : fault ≡ slot_fault 50 image import.slot
  pub endless : EndsAs s (import.module_name, import.key) (Endless length)
