-- The error of a set, class by class.
use Rattle.std.proofs.Common.{◌≡◌, ◌∙◌, Bool, true, false, cond, List, [], ◌∷◌, ◌++◌, Option, Some, None, refl, sym, ap, append_assoc}
use Rattle.pe_view.specs.declared.fault.Fault.{Fault}
use Rattle.pe_view.specs.Faults.{Test, first_standing}
use Rattle.pe_view.specs.FirstStanding.{first-past, first-in}
use Rattle.pe_set.specs.Set.{Entry, modules_of}
use Rattle.pe_set.specs.SetFaults.{RefusesClass, names_tests, files_tests, places_tests, placed_tests}
use Rattle.pe_set.specs.SetErrors.{imports_errors, first_error, faults_in, set_errors, set_error, ErrorIs}
use Rattle.pe_set.specs.declared.entry.Policy.{Policy}
use Rattle.pe_set.specs.declared.error.MapError.{MapError}
use Rattle.pe_set.specs.declared.error.MapError.TheVariants as errors

-- a fault, else a later error
abbrev pub error_or : Option Fault → Option MapError → Option MapError
error_or None later = later
error_or (Some fault) later = Some (errors.Fault fault)

class_step : (stands : Bool) (fault : Fault) (own later : List MapError) (first : Option Fault) → first_error (own ++ later) ≡ error_or first (first_error later)
    → first_error (cond stands (errors.Fault fault ∷ own) own ++ later) ≡ error_or (cond stands (Some fault) first) (first_error later)
class_step true fault own later first rest = refl
class_step false fault own later first rest = rest

-- the first error of a class and of those after it
pub class_first : (tests : List Test) (later : List MapError) → first_error (faults_in tests ++ later) ≡ error_or (first_standing tests) (first_error later)
class_first [] later = refl
class_first (t ∷ tests) later = class_step t.stands t.fault (faults_in tests) later (first_standing tests) (class_first tests later)

-- ---- the faults of a class, and the errors after it
pub in_class : (tests : List Test) (later : List MapError) (error : MapError) → RefusesClass tests error → ErrorIs (first_error (faults_in tests ++ later)) error
in_class tests later errors.Memory refused = tt
in_class tests later (errors.Fault fault) refused = class_first tests later ∙ ap (λ o. error_or o (first_error later)) refused
in_class tests later (errors.Cycle fault length) refused = absurd refused

-- a class without a fault
pub past : (tests : List Test) (later : List MapError) → first_standing tests ≡ None → first_error (faults_in tests ++ later) ≡ first_error later
past tests later none = class_first tests later ∙ ap (λ o. error_or o (first_error later)) none

pub past_class : (tests : List Test) (later : List MapError) (error : MapError) → first_standing tests ≡ None → ErrorIs (first_error later) error → ErrorIs (first_error (faults_in tests ++ later)) error
past_class tests later error none is = rw (past tests later none) is

none_by : (o : Option Fault) (later : Option MapError) → error_or o later ≡ None → (o ≡ None) × (later ≡ None)
none_by None later none = (refl, none)
none_by (Some fault) later none = absurd cc

-- no error: the class has no fault, and there is none after it
pub none_of_class : (tests : List Test) (later : List MapError) → first_error (faults_in tests ++ later) ≡ None → (first_standing tests ≡ None) × (first_error later ≡ None)
none_of_class tests later none = none_by (first_standing tests) (first_error later) (sym (class_first tests later) ∙ none)

-- ---- the whole set
pub of_names : (policy : Policy) (es : List Entry) (fault : Fault) → first_standing (names_tests es) ≡ Some fault → set_error policy es ≡ Some (errors.Fault fault)
unfolding set_errors
of_names policy es fault stands = in_class (names_tests es) _ (errors.Fault fault) stands

pub of_files : (policy : Policy) (es : List Entry) (fault : Fault) → first_standing (names_tests es) ≡ None → first_standing (files_tests es) ≡ Some fault → set_error policy es ≡ Some (errors.Fault fault)
unfolding set_errors
of_files policy es fault names stands = past (names_tests es) _ names ∙ in_class (files_tests es) _ (errors.Fault fault) stands

pub of_places : (policy : Policy) (es : List Entry) (fault : Fault) → first_standing (names_tests es) ≡ None → first_standing (files_tests es) ≡ None
    → first_standing (places_tests (modules_of es)) ≡ Some fault → set_error policy es ≡ Some (errors.Fault fault)
unfolding set_errors
of_places policy es fault names files stands = past (names_tests es) _ names ∙ past (files_tests es) _ files ∙ in_class (places_tests (modules_of es)) _ (errors.Fault fault) stands

pub of_imports : (policy : Policy) (es : List Entry) → first_standing (names_tests es) ≡ None → first_standing (files_tests es) ≡ None
    → first_standing (places_tests (modules_of es)) ≡ None → set_error policy es ≡ first_error (imports_errors policy (modules_of es))
unfolding set_errors
of_imports policy es names files places = past (names_tests es) _ names ∙ past (files_tests es) _ files ∙ past (places_tests (modules_of es)) _ places

-- ---- names, files and places together
-- a refusal by the first class of several, and one by a later class
pub first_of : (tests later : List Test) (error : MapError) → RefusesClass tests error → RefusesClass (tests ++ later) error
first_of tests later errors.Memory refused = tt
first_of tests later (errors.Fault fault) refused = first-in tests later fault refused
first_of tests later (errors.Cycle fault length) refused = absurd refused

pub later_of : (tests later : List Test) (error : MapError) → first_standing tests ≡ None → RefusesClass later error → RefusesClass (tests ++ later) error
later_of tests later errors.Memory none refused = tt
later_of tests later (errors.Fault fault) none refused = first-past tests later none ∙ refused
later_of tests later (errors.Cycle fault length) none refused = absurd refused

faults-append : (tests later : List Test) → faults_in (tests ++ later) ≡ faults_in tests ++ faults_in later
faults-append [] later = refl
faults-append (t ∷ tests) later = step t.stands (errors.Fault t.fault) (faults_in tests) (faults_in (tests ++ later)) (faults-append tests later)
  where
    step : (b : Bool) (error : MapError) (own all : List MapError) → all ≡ own ++ faults_in later → cond b (error ∷ all) all ≡ cond b (error ∷ own) own ++ faults_in later
    step true error own all is = ap (λ es. error ∷ es) is
    step false error own all is = is

pub placed_first : (policy : Policy) (es : List Entry) → set_errors policy es ≡ faults_in (placed_tests es) ++ imports_errors policy (modules_of es)
unfolding set_errors
placed_first policy es =
    let names = faults_in (names_tests es) in
    let files = faults_in (files_tests es) in
    let places = faults_in (places_tests (modules_of es)) in
    let imports = imports_errors policy (modules_of es) in
    sym (ap (λ xs. xs ++ imports) (faults-append (names_tests es) (files_tests es ++ places_tests (modules_of es)) ∙ ap (λ xs. names ++ xs) (faults-append (files_tests es) (places_tests (modules_of es))))
    ∙ append_assoc names (files ++ places) imports
    ∙ ap (λ xs. names ++ xs) (append_assoc files places imports))
