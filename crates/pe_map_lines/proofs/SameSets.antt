-- Sets of files with the same answers have the same errors and the same images.
use Rattle.std.proofs.Common.{◌≡◌, ℕ, zero, suc, ◌+◌, Bool, List, [], ◌∷◌, ◌++◌, Option, None, Some, refl, sym, ◌∙◌, ap, ap₂, subst, take}
use Rattle.std.specs.Prelude.{◌||◌, ◌==◌, flat_map}
use Rattle.std.specs.List.{list_any}
use Rattle.std.specs.Option.{option_or}
use Rattle.pe_view.specs.declared.fault.Fault.{Fault}
use Rattle.pe_view.specs.declared.fault.Place.TheVariants.{Item}
use Rattle.pe_view.specs.Faults.{Test, test, first_standing}
use Rattle.pe_view.specs.FirstStanding.{first-append}
use Rattle.pe_image.specs.ImageTests.{image_tests}
use Rattle.pe_set.specs.Numbered.{numbered}
use Rattle.pe_set.specs.Set.{Entry, Module, module_from, module_of, modules_from, modules_of, same_name}
use Rattle.pe_set.specs.SetFaults.{name_tests, names_tests, files_tests, places_tests}
use Rattle.pe_set.specs.SetErrors.{imports_errors, first_error, set_error}
use Rattle.pe_set.specs.declared.entry.Policy.{Policy}
use Rattle.pe_set.specs.declared.error.MapError.{MapError}
use Rattle.pe_set.specs.declared.error.MapError.TheVariants as errors
use Rattle.pe_text.specs.declared.outcome.Outcome.{Outcome}
use Rattle.pe_text.specs.declared.outcome.Outcome.TheVariants.{Done, Refused}
use Rattle.pe_reach.specs.Reach.{SameAnswers}
use Rattle.pe_map_lines.specs.SameSets.{AreSameSets}
use Rattle.pe_map_lines.specs.MapReport.{IsMapText, IsRefusalText, window_fault, map_text}
use Rattle.pe_unbound.specs.Unbound.{unbound_of}
use Rattle.pe_map_lines.specs.UnboundImports.{IsUnboundText, unbound_line}

module_agrees : (n : ℕ) (e f : Entry) → e.name ≡ f.name → e.base ≡ f.base → SameAnswers e.file f.file → module_of n e ≡ module_of n f
module_agrees n e f name base same = λ i. module_from (name i) (base i) (same.headers i).magic (same.image n i)

modules_agree : (n : ℕ) (es fs : List Entry) → AreSameSets es fs → modules_from n es ≡ modules_from n fs
modules_agree n [] [] same = refl
modules_agree n [] (f ∷ fs) same = absurd same
modules_agree n (e ∷ es) [] same = absurd same
modules_agree n (e ∷ es) (f ∷ fs) same = ap₂ (λ (m : Module) (s : List Module). m ∷ s) (module_agrees n e f same.0 same.1 same.2) (modules_agree (n + 1) es fs same.3)

pub sets_agree : (es fs : List Entry) → AreSameSets es fs → modules_of es ≡ modules_of fs
unfolding modules_of
sets_agree es fs same = modules_agree 0 es fs same

-- whether one of the first entries has a name
any_agrees : (name : List ℕ) (k : ℕ) (es fs : List Entry) → AreSameSets es fs → list_any (λ (before : Entry). same_name name before.name) (take k es) ≡ list_any (λ (before : Entry). same_name name before.name) (take k fs)
any_agrees name zero es fs same = refl
any_agrees name (suc k) [] [] same = refl
any_agrees name (suc k) [] (f ∷ fs) same = absurd same
any_agrees name (suc k) (e ∷ es) [] same = absurd same
any_agrees name (suc k) (e ∷ es) (f ∷ fs) same = ap₂ (λ (n : List ℕ) (b : Bool). same_name name n || b) same.0 (any_agrees name k es fs same.3)

module _ (all others : List Entry) (same : AreSameSets all others) where
  name_agrees : (k : ℕ) (e f : Entry) → e.name ≡ f.name → name_tests all k e ≡ name_tests others k f
  name_agrees k e f name =
      let is_named : list_any (λ (before : Entry). same_name e.name before.name) (take k all) ≡ list_any (λ (before : Entry). same_name f.name before.name) (take k others) =
      ap (λ (n : List ℕ). list_any (λ (before : Entry). same_name n before.name) (take k all)) name ∙ any_agrees f.name k all others same in
      ap (λ (b : Bool). test 41 k (Item k) (k == 256) ∷ test 42 k (Item k) b ∷ []) is_named

  each_name_agrees : (k : ℕ) (es fs : List Entry) → AreSameSets es fs → numbered (name_tests all) k es ≡ numbered (name_tests others) k fs
  each_name_agrees k [] [] rest = refl
  each_name_agrees k [] (f ∷ fs) rest = absurd rest
  each_name_agrees k (e ∷ es) [] rest = absurd rest
  each_name_agrees k (e ∷ es) (f ∷ fs) rest = ap₂ (λ (x y : List Test). x ++ y) (name_agrees k e f rest.0) (each_name_agrees (k + 1) es fs rest.3)

names_agree : (es fs : List Entry) → AreSameSets es fs → names_tests es ≡ names_tests fs
unfolding names_tests
names_agree es fs same = each_name_agrees es fs same 0 es fs same

module _ (faults : (number : ℕ) (f g : List ℕ) → SameAnswers f g → first_standing (image_tests number f) ≡ first_standing (image_tests number g)) where
  each_file_agrees : (n : ℕ) (es fs : List Entry) → AreSameSets es fs
      → first_standing (numbered (λ i (e : Entry). image_tests i e.file) n es) ≡ first_standing (numbered (λ i (e : Entry). image_tests i e.file) n fs)
  each_file_agrees n [] [] same = refl
  each_file_agrees n [] (f ∷ fs) same = absurd same
  each_file_agrees n (e ∷ es) [] same = absurd same
  each_file_agrees n (e ∷ es) (f ∷ fs) same =
      first-append (image_tests n e.file) (numbered (λ i (e : Entry). image_tests i e.file) (n + 1) es)
      ∙ ap₂ (λ (x y : Option Fault). option_or x y) (faults n e.file f.file same.2) (each_file_agrees (n + 1) es fs same.3)
      ∙ sym (first-append (image_tests n f.file) (numbered (λ i (e : Entry). image_tests i e.file) (n + 1) fs))

  files_agree : (es fs : List Entry) → AreSameSets es fs → first_standing (files_tests es) ≡ first_standing (files_tests fs)
  unfolding files_tests
  files_agree es fs same = each_file_agrees 0 es fs same

  -- the errors of a set, class by class
  module _ (policy : Policy)
      (in_names : (es : List Entry) (fault : Fault) → first_standing (names_tests es) ≡ Some fault → set_error policy es ≡ Some (errors.Fault fault))
      (in_files : (es : List Entry) (fault : Fault) → first_standing (names_tests es) ≡ None → first_standing (files_tests es) ≡ Some fault → set_error policy es ≡ Some (errors.Fault fault))
      (in_places : (es : List Entry) (fault : Fault) → first_standing (names_tests es) ≡ None → first_standing (files_tests es) ≡ None → first_standing (places_tests (modules_of es)) ≡ Some fault → set_error policy es ≡ Some (errors.Fault fault))
      (in_imports : (es : List Entry) → first_standing (names_tests es) ≡ None → first_standing (files_tests es) ≡ None → first_standing (places_tests (modules_of es)) ≡ None → set_error policy es ≡ first_error (imports_errors policy (modules_of es)))
      (es fs : List Entry) (same : AreSameSets es fs) where
    names : first_standing (names_tests fs) ≡ first_standing (names_tests es)
    names = ap first_standing (sym (names_agree es fs same))

    files : first_standing (files_tests fs) ≡ first_standing (files_tests es)
    files = sym (files_agree es fs same)

    places : first_standing (places_tests (modules_of fs)) ≡ first_standing (places_tests (modules_of es))
    places = ap (λ (s : List Module). first_standing (places_tests s)) (sym (sets_agree es fs same))

    by_places : first_standing (names_tests es) ≡ None → first_standing (files_tests es) ≡ None → (o : Option Fault) → first_standing (places_tests (modules_of es)) ≡ o → set_error policy es ≡ set_error policy fs
    by_places no_name no_file (Some fault) is = in_places es fault no_name no_file is ∙ sym (in_places fs fault (names ∙ no_name) (files ∙ no_file) (places ∙ is))
    by_places no_name no_file None is =
        in_imports es no_name no_file is
        ∙ ap (λ (s : List Module). first_error (imports_errors policy s)) (sets_agree es fs same)
        ∙ sym (in_imports fs (names ∙ no_name) (files ∙ no_file) (places ∙ is))

    by_files : first_standing (names_tests es) ≡ None → (o : Option Fault) → first_standing (files_tests es) ≡ o → set_error policy es ≡ set_error policy fs
    by_files no_name (Some fault) is = in_files es fault no_name is ∙ sym (in_files fs fault (names ∙ no_name) (files ∙ is))
    by_files no_name None is = by_places no_name is (first_standing (places_tests (modules_of es))) refl

    by_names : (o : Option Fault) → first_standing (names_tests es) ≡ o → set_error policy es ≡ set_error policy fs
    by_names (Some fault) is = in_names es fault is ∙ sym (in_names fs fault (names ∙ is))
    by_names None is = by_files is (first_standing (files_tests es)) refl

    pub error_agrees : set_error policy es ≡ set_error policy fs
    error_agrees = by_names (first_standing (names_tests es)) refl

-- the report depends on the error and on the images
pub text_follows : (policy : Policy) (es fs : List Entry) (window : Option (ℕ × ℕ)) → set_error policy es ≡ set_error policy fs → modules_of es ≡ modules_of fs
    → (outcome : Outcome) (text : List ℕ) → IsMapText policy fs window outcome text → IsMapText policy es window outcome text
text_follows policy es fs window error modules Done text is =
    (error ∙ is.0, ap (λ (s : List Module). window_fault s window) modules ∙ is.1, is.2 ∙ ap (λ (s : List Module). map_text s window) (sym modules))
text_follows policy es fs window error modules (Refused fault) text is =
    subst (λ (s : List Module). IsRefusalText (set_error policy es) (window_fault s window) fault text) (sym modules)
    (subst (λ (e : Option MapError). IsRefusalText e (window_fault (modules_of fs) window) fault text) (sym error) is)

-- so do the lines of imports that are bound to nothing
pub unbound_follows : (policy : Policy) (es fs : List Entry) (window : Option (ℕ × ℕ)) → modules_of es ≡ modules_of fs
    → ((outcome : Outcome) (text : List ℕ) → IsMapText policy fs window outcome text → IsMapText policy es window outcome text)
    → (outcome : Outcome) (text : List ℕ) → IsUnboundText policy fs window outcome text → IsUnboundText policy es window outcome text
unbound_follows policy es fs window modules report Done text is =
    (is.0, report Done is.0 is.1, is.2 ∙ ap (λ (s : List Module). is.0 ++ flat_map unbound_line (unbound_of s)) (sym modules))
unbound_follows policy es fs window modules report (Refused fault) text is = report (Refused fault) text is
