-- A set without an error has none of any class.
use Rattle.std.proofs.Common.{◌≡◌, List, [], ◌∷◌, ◌++◌, None, refl}
use Rattle.pe_view.specs.Faults.{first_standing}
use Rattle.pe_set.specs.Set.{Entry, modules_of}
use Rattle.pe_view.specs.FirstStanding.{none-append}
use Rattle.pe_set.specs.DelayedErrors.{delayed_errors, delayed_error}
use Rattle.pe_set.specs.DelayedImports.{with_delayed}
use Rattle.pe_set.specs.SetFaults.{names_tests, files_tests, places_tests, placed_tests}
use Rattle.pe_set.specs.SetErrors.{faults_in, imports_errors, first_error, set_errors, set_error}
use Rattle.pe_set.specs.declared.entry.Policy.{Policy}
use Rattle.pe_set.specs.declared.error.MapError.{MapError}
use Rattle.pe_set.proofs.Errors.{none_of_class}

pub record IsFaultless (policy : Policy) (es : List Entry) : Type 0 where
  pub names : first_standing (names_tests es) ≡ None
  pub files : first_standing (files_tests es) ≡ None
  pub places : first_standing (places_tests (modules_of es)) ≡ None
  pub imports : first_error (imports_errors policy (modules_of es)) ≡ None

pub classes : (policy : Policy) (es : List Entry) → set_error policy es ≡ None → IsFaultless policy es
unfolding set_errors
classes policy es none =
    let s = modules_of es in
    let a = none_of_class (names_tests es) (faults_in (files_tests es) ++ (faults_in (places_tests s) ++ imports_errors policy s)) none in
    let b = none_of_class (files_tests es) (faults_in (places_tests s) ++ imports_errors policy s) a.1 in
    let d = none_of_class (places_tests s) (imports_errors policy s) b.1 in
    record { names = a.0; files = b.0; places = d.0; imports = d.1 }

-- a list of errors without a first one has none
pub no_error : (es : List MapError) → first_error es ≡ None → es ≡ []
no_error [] none = refl
no_error (error ∷ es) none = absurd cc

-- the same of its names, files and places
pub record ArePlaced (es : List Entry) : Type 0 where
  pub names : first_standing (names_tests es) ≡ None
  pub files : first_standing (files_tests es) ≡ None
  pub places : first_standing (places_tests (modules_of es)) ≡ None

pub placed_classes : (es : List Entry) → first_standing (placed_tests es) ≡ None → ArePlaced es
placed_classes es none =
    let a = none-append (names_tests es) (files_tests es ++ places_tests (modules_of es)) none in
    let b = none-append (files_tests es) (places_tests (modules_of es)) a.1 in
    record { names = a.0; files = b.0; places = b.1 }

-- ---- with delay-loaded imports
pub record IsFaultlessDelayed (policy : Policy) (es : List Entry) : Type 0 where
  pub names : first_standing (names_tests es) ≡ None
  pub files : first_standing (files_tests es) ≡ None
  pub places : first_standing (places_tests (modules_of es)) ≡ None
  pub imports : first_error (imports_errors policy (with_delayed (modules_of es))) ≡ None

pub delayed_classes : (policy : Policy) (es : List Entry) → delayed_error policy es ≡ None → IsFaultlessDelayed policy es
unfolding delayed_errors
delayed_classes policy es none =
    let both = none_of_class (placed_tests es) (imports_errors policy (with_delayed (modules_of es))) none in
    let ok = placed_classes es both.0 in
    record { names = ok.names; files = ok.files; places = ok.places; imports = both.1 }
