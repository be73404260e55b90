-- The faults of a set at other bases: all but where its images are remain the same.
use Rattle.std.proofs.Common.{◌≡◌, ◌∙◌, ◌+◌, ◌==◌, ℕ, zero, suc, List, [], ◌∷◌, ◌++◌, Bool, take, None, refl, ap}
use Rattle.std.specs.Prelude.{◌||◌}
use Rattle.std.specs.List.{list_any, flat_map}
use Rattle.pe_view.specs.declared.fault.Place.TheVariants.{Item}
use Rattle.pe_view.specs.Faults.{Test, test, first_standing}
use Rattle.pe_tables.specs.Imports.{Import}
use Rattle.pe_image.specs.ImageTests.{image_tests}
use Rattle.pe_set.specs.Numbered.{numbered}
use Rattle.pe_set.specs.Set.{Entry, Module, modules_of, at_bases, rebased, same_name}
use Rattle.pe_set.specs.SetFaults.{name_tests, names_tests, files_tests, places_tests}
use Rattle.pe_set.specs.SetErrors.{end_errors, import_errors, imports_errors, first_error, set_error}
use Rattle.pe_set.specs.declared.entry.Policy.{Policy}
use Rattle.pe_set.specs.declared.error.MapError.{MapError}
use Rattle.pe_set.proofs.Errors.{of_imports}
use Rattle.pe_set.proofs.Faultless.{classes}
use Rattle.pe_set.proofs.Bases.{images_at, resolve_rebased}

-- ---- names
before_same : (name bases : List ℕ) (es : List Entry) (i : ℕ)
    → list_any (λ (before : Entry). same_name name before.name) (take i (at_bases bases es)) ≡ list_any (λ (before : Entry). same_name name before.name) (take i es)
before_same name [] es i = refl
before_same name (base ∷ bases) [] i = refl
before_same name (base ∷ bases) (e ∷ es) zero = refl
before_same name (base ∷ bases) (e ∷ es) (suc i) = ap (λ (t : Bool). same_name name e.name || t) (before_same name bases es i)

-- the same of the entries `es` of a set `all`
names_within : (bases : List ℕ) (all : List Entry) (n : ℕ) (es : List Entry) → numbered (name_tests (at_bases bases all)) n es ≡ numbered (name_tests all) n es
names_within bases all n [] = refl
names_within bases all n (e ∷ es) =
    ap (λ (t : Bool). (test 41 n (Item n) (n == 256) ∷ test 42 n (Item n) t ∷ []) ++ numbered (name_tests (at_bases bases all)) (n + 1) es) (before_same e.name bases all n)
    ∙ ap (λ (ts : List Test). name_tests all n e ++ ts) (names_within bases all (n + 1) es)

names_from : (all : List Entry) (n : ℕ) (bases : List ℕ) (es : List Entry) → numbered (name_tests all) n (at_bases bases es) ≡ numbered (name_tests all) n es
names_from all n [] es = refl
names_from all n (base ∷ bases) [] = refl
names_from all n (base ∷ bases) (e ∷ es) = ap (λ (ts : List Test). name_tests all n e ++ ts) (names_from all (n + 1) bases es)

pub names_stay : (bases : List ℕ) (es : List Entry) → names_tests (at_bases bases es) ≡ names_tests es
unfolding names_tests
names_stay bases es = names_within bases es 0 (at_bases bases es) ∙ names_from es 0 bases es

-- ---- files
files_from : (n : ℕ) (bases : List ℕ) (es : List Entry) → numbered (λ i (e : Entry). image_tests i e.file) n (at_bases bases es) ≡ numbered (λ i (e : Entry). image_tests i e.file) n es
files_from n [] es = refl
files_from n (base ∷ bases) [] = refl
files_from n (base ∷ bases) (e ∷ es) = ap (λ (ts : List Test). image_tests n e.file ++ ts) (files_from (n + 1) bases es)

pub files_stay : (bases : List ℕ) (es : List Entry) → files_tests (at_bases bases es) ≡ files_tests es
unfolding files_tests
files_stay bases es = files_from 0 bases es

-- ---- imports
module _ (policy : Policy) (bases : List ℕ) (s : List Module) where
  import_stays : (i : ℕ) (x : Import) → import_errors policy (rebased bases s) i x ≡ import_errors policy s i x
  import_stays i x = ap (end_errors policy i x.slot) (resolve_rebased bases s x.module_name x.key)

  imports_of_image : (i : ℕ) (xs : List Import) → flat_map (import_errors policy (rebased bases s) i) xs ≡ flat_map (import_errors policy s i) xs
  imports_of_image i [] = refl
  imports_of_image i (x ∷ xs) =
      ap (λ (own : List MapError). own ++ flat_map (import_errors policy (rebased bases s) i) xs) (import_stays i x)
      ∙ ap (λ (rest : List MapError). import_errors policy s i x ++ rest) (imports_of_image i xs)

  -- the same of the images t of the set
  imports_within : (n : ℕ) (t : List Module)
      → numbered (λ i (m : Module). flat_map (import_errors policy (rebased bases s) i) m.imports) n t ≡ numbered (λ i (m : Module). flat_map (import_errors policy s i) m.imports) n t
  imports_within n [] = refl
  imports_within n (m ∷ t) =
      ap (λ (own : List MapError). own ++ numbered (λ i (m : Module). flat_map (import_errors policy (rebased bases s) i) m.imports) (n + 1) t) (imports_of_image n m.imports)
      ∙ ap (λ (rest : List MapError). flat_map (import_errors policy s n) m.imports ++ rest) (imports_within (n + 1) t)

imports_from : (policy : Policy) (s : List Module) (n : ℕ) (bases : List ℕ) (t : List Module)
    → numbered (λ i (m : Module). flat_map (import_errors policy s i) m.imports) n (rebased bases t) ≡ numbered (λ i (m : Module). flat_map (import_errors policy s i) m.imports) n t
imports_from policy s n [] t = refl
imports_from policy s n (base ∷ bases) [] = refl
imports_from policy s n (base ∷ bases) (m ∷ t) = ap (λ (rest : List MapError). flat_map (import_errors policy s n) m.imports ++ rest) (imports_from policy s (n + 1) bases t)

pub imports_rebased : (policy : Policy) (bases : List ℕ) (s : List Module) → imports_errors policy (rebased bases s) ≡ imports_errors policy s
unfolding imports_errors
imports_rebased policy bases s = imports_within policy bases s 0 (rebased bases s) ∙ imports_from policy s 0 bases s

imports_stay : (policy : Policy) (bases : List ℕ) (es : List Entry) → imports_errors policy (modules_of (at_bases bases es)) ≡ imports_errors policy (modules_of es)
imports_stay policy bases es = ap (imports_errors policy) (images_at bases es) ∙ imports_rebased policy bases (modules_of es)

-- an accepted set is accepted at all bases at which its images may be
pub accepted_at : (policy : Policy) (es : List Entry) (bases : List ℕ) → set_error policy es ≡ None
    → first_standing (places_tests (modules_of (at_bases bases es))) ≡ None → set_error policy (at_bases bases es) ≡ None
accepted_at policy es bases none placed =
    let ok = classes policy es none in
    of_imports policy (at_bases bases es) (ap first_standing (names_stay bases es) ∙ ok.names) (ap first_standing (files_stay bases es) ∙ ok.files) placed
    ∙ ap first_error (imports_stay policy bases es) ∙ ok.imports
