-- A set with its delay-loaded imports at other bases, and after a move.
use Rattle.std.proofs.Common.{◌≡◌, ◌∙◌, ℕ, List, [], ◌∷◌, ◌++◌, map, None, refl, sym, ap}
use Rattle.std.specs.Prelude.{filter, slice_set}
use Rattle.std.proofs.lemmas.List.Elements.{filter_agree}
use Rattle.pe_view.specs.Faults.{first_standing}
use Rattle.pe_view.specs.FirstStanding.{first-past}
use Rattle.pe_tables.specs.Imports.{Import}
use Rattle.pe_set.specs.Bindings.{bindings_of}
use Rattle.pe_set.specs.DelayedErrors.{delayed_errors, delayed_error}
use Rattle.pe_set.specs.DelayedImports.{stays_inside, staying, with_own_slots, delayed_in, with_imports, with_delayed}
use Rattle.pe_set.specs.Placement.{move_tests}
use Rattle.pe_set.specs.Search.{resolve}
use Rattle.pe_set.specs.Set.{Entry, Module, modules_of, placement_of, bases_of, at_bases, rebased}
use Rattle.pe_set.specs.SetErrors.{imports_errors, first_error}
use Rattle.pe_set.specs.SetFaults.{names_tests, files_tests, places_tests}
use Rattle.pe_set.specs.declared.entry.Policy.{Policy}
use Rattle.pe_set.proofs.Bases.{images_at, resolve_rebased, bindings_rebased}
use Rattle.pe_set.proofs.Errors.{past}
use Rattle.pe_set.proofs.Faultless.{delayed_classes}
use Rattle.pe_set.proofs.Moving.{images_moved, moved_stand}
use Rattle.pe_set.proofs.Staying.{names_stay, files_stay, imports_rebased}

-- the same imports are bound at other bases
staying_rebased : (bases : List ℕ) (s : List Module) (xs : List Import) → staying (rebased bases s) xs ≡ staying s xs
staying_rebased bases s xs = filter_agree (λ (x : Import). stays_inside (resolve (rebased bases s) x.module_name x.key)) (λ (x : Import). stays_inside (resolve s x.module_name x.key))
    (λ x. ap stays_inside (resolve_rebased bases s x.module_name x.key)) xs

with_rebased : (s : List Module) (bases : List ℕ) (t : List Module)
    → map (λ (m : Module). with_imports (delayed_in s m) m) (rebased bases t) ≡ rebased bases (map (λ (m : Module). with_imports (delayed_in s m) m) t)
with_rebased s [] t = refl
with_rebased s (base ∷ bases) [] = refl
with_rebased s (base ∷ bases) (m ∷ t) = ap (λ (u : List Module). record (with_imports (delayed_in s m) m) { base = base } ∷ u) (with_rebased s bases t)

with_same : (bases : List ℕ) (s t : List Module)
    → map (λ (m : Module). with_imports (delayed_in (rebased bases s) m) m) t ≡ map (λ (m : Module). with_imports (delayed_in s m) m) t
with_same bases s [] = refl
with_same bases s (m ∷ t) =
    ap (λ (more : List Import). with_imports more m ∷ map (λ (m : Module). with_imports (delayed_in (rebased bases s) m) m) t) (staying_rebased bases s (with_own_slots m.image m.imports))
    ∙ ap (λ (u : List Module). with_imports (delayed_in s m) m ∷ u) (with_same bases s t)

delayed_rebased : (bases : List ℕ) (s : List Module) → with_delayed (rebased bases s) ≡ rebased bases (with_delayed s)
unfolding with_delayed
delayed_rebased bases s = with_same bases s (rebased bases s) ∙ with_rebased s bases s

-- the images of a set with their delay-loaded imports at other bases are those images at them
pub delayed_at : (bases : List ℕ) (es : List Entry) → with_delayed (modules_of (at_bases bases es)) ≡ rebased bases (with_delayed (modules_of es))
delayed_at bases es = ap with_delayed (images_at bases es) ∙ delayed_rebased bases (modules_of es)

pub delayed_bindings_at : (bases : List ℕ) (es : List Entry) → bindings_of (with_delayed (modules_of (at_bases bases es))) ≡ bindings_of (with_delayed (modules_of es))
delayed_bindings_at bases es = ap bindings_of (delayed_at bases es) ∙ bindings_rebased bases (with_delayed (modules_of es))

-- it is accepted at all bases at which its images may be
pub delayed_accepted_at : (policy : Policy) (es : List Entry) (bases : List ℕ) → delayed_error policy es ≡ None
    → first_standing (places_tests (modules_of (at_bases bases es))) ≡ None → delayed_error policy (at_bases bases es) ≡ None
unfolding delayed_errors
delayed_accepted_at policy es bases none placed =
    let ok = delayed_classes policy es none in
    let at = at_bases bases es in
    past (names_tests at ++ (files_tests at ++ places_tests (modules_of at))) _
    (first-past (names_tests at) (files_tests at ++ places_tests (modules_of at)) (ap first_standing (names_stay bases es) ∙ ok.names)
    ∙ first-past (files_tests at) (places_tests (modules_of at)) (ap first_standing (files_stay bases es) ∙ ok.files)
    ∙ placed)
    ∙ ap (λ s. first_error (imports_errors policy s)) (delayed_at bases es)
    ∙ ap first_error (imports_rebased policy bases (with_delayed (modules_of es)))
    ∙ ok.imports

-- and with an image moved, if the move has no fault
pub delayed_accepted_moved : (policy : Policy) (es : List Entry) (i base : ℕ) → delayed_error policy es ≡ None
    → first_standing (move_tests (map placement_of (modules_of es)) i base) ≡ None
    → delayed_error policy (at_bases (slice_set (bases_of es) i base) es) ≡ None
delayed_accepted_moved policy es i base none move =
    delayed_accepted_at policy es (slice_set (bases_of es) i base) none
    (ap (λ s. first_standing (places_tests s)) (images_moved es i base) ∙ moved_stand (modules_of es) i base (delayed_classes policy es none).places move)
