use Rattle.std.proofs.Common.{◌∙◌, ◌≡◌, ◌+◌, ◌<◌, ◌++◌, ℕ, List, Bor, Some, length, arith, map, sym, ap, subst, refl, append-nil, get_or}
use Rattle.std.specs.Prelude.{option_to_list, slice_get}
use Rattle.std.proofs.lemmas.Result.{err_from_is_err_and}
use Rattle.pe_tables.specs.ImportView.{import_view}
use Rattle.pe_set.specs.Bindings.{binding_of}
use Rattle.pe_set.specs.SetErrors.{import_errors, first_error}
use Rattle.pe_set.specs.SetView.{modules_view}
use Rattle.pe_set.specs.NamesView.{names_in, found}
use Rattle.pe_set.proofs.LongNames.{beginning_alike}
use Rattle.pe_set.proofs.Searching.{found_named, same_text}
use Rattle.pe_set.proofs.Asking.{next_item, gathered_some}
use Rattle.pe_set.proofs.AskingErrors.{flat_past, flat_in, error-whole}
use Rattle.std.specs.List.{flat_map, filter_map}
use Rattle.std.proofs.lemmas.List.{drop_all, get_or-map, length-map}
use Rattle.std.proofs.lemmas.Option.{slice_get-get_or}
use Rattle.pe_layout.specs.Layout.{file_of, image_of}
use Rattle.pe_tables.specs.ImportNames.{AreNamedAt}
use Rattle.pe_tables.specs.Imports.{Import}
use Rattle.pe_set.proofs.Owning.{named_here}
use Rattle.pe_set.proofs.Trailing.{no_trails}
use Rattle.pe_set.proofs.Defaults.{no_import}
use Rattle.pe_set.proofs.binding.bind_imports.Goals as goal
use Rattle.pe_set.proofs.binding.bind_imports.Goals.{in-Some+in_ok-push, in_default, then-ne+in_ok-image-2, else-ne}

pub returns-in_err-binding-clause-exact : goal.returns-in_err-binding-clause-exact
returns-in_err-binding-clause-exact g c =
    let s = modules_view c.args.modules.now in
    let xs = c.args.imports.now in
    let i : ℕ = c.loop-import.import-index in
    let p = err_from_is_err_and c.from_residual-in_err-binding.result c.from_residual-in_err-binding.ensures.1 in
    let is_end = c.in_ok-resolution.ensures.exact in
    let refused = rw is_end at c.in_err-binding.ensures in
    rw (p.1, p.2)
    (error-whole (first_error (import_errors c.args.policy s c.args.number (import_view (get_or xs i no_import)))) (first_error (flat_map (import_errors c.args.policy s c.args.number) (map import_view xs)))
    (flat_in import_view (import_errors c.args.policy s c.args.number) xs i (get_or xs i no_import) (next_item xs i no_import c.loop-import-test.true) c.loop-import.invariant.rest)
    c.in_err-binding.field-0.0 refused)

pub loop-import-preserved : goal.loop-import-preserved
loop-import-preserved g c =
    let s = modules_view c.args.modules.now in
    let xs = c.args.imports.now in
    let i : ℕ = c.loop-import.import-index in
    let next = next_item xs i no_import c.loop-import-test.true in
    let is_end = c.in_ok-resolution.ensures.exact in
    let none = rw is_end at c.in_ok-binding.ensures.0 in
    let is = rw is_end at c.in_ok-binding.ensures.1 in
    record {
      known = c.in_ok-resolution.ensures.known;
      remembered = c.in_ok-resolution.ensures.remembered;
      trails = c.in_ok-resolution.ensures.trails;
      number = ap (λ (n : ℕ). n + 1) c.loop-import.invariant.number;
      image = elim c.if-ne.branch [
        | then-ne+in_ok-image-2 w ↦ w.image-is ∙ w.in_ok-image-2.ensures ∙ sym (ap (λ (text : Bor (List ℕ)). found (names_in c.args.names.now) text.now) w.name-is)
        | else-ne w ↦ w.image-is ∙ c.loop-import.invariant.image ∙ sym (ap (λ (text : Bor (List ℕ)). found (names_in c.args.names.now) text.now) w.name-is)
      ];
      rest = flat_past import_view (import_errors c.args.policy s c.args.number) xs i (get_or xs i no_import) next c.loop-import.invariant.rest none;
      bound = gathered_some import_view xs i (get_or xs i no_import) next c.loop-import.bindings.items _ (binding_of s c.args.number) c.loop-import.invariant.bound c.match-branch-6.bindings.items
          (elim c.match-branch-6.branch [
            | in-Some+in_ok-push w ↦ ap (λ v. v.items) w.bindings-is ∙ w.in_ok-push.ensures.items ∙ ap (λ o. c.loop-import.bindings.items ++ option_to_list o) (sym w.in-Some.is ∙ is)
            | in_default w ↦ ap (λ v. v.items) w.bindings-is ∙ sym (append-nil c.loop-import.bindings.items) ∙ ap (λ o. c.loop-import.bindings.items ++ option_to_list o) (sym w.in_default.is ∙ is)
          ]);
    }

pub resolve_once-requires-clause-image : goal.resolve_once-requires-clause-image
resolve_once-requires-clause-image g c =
    let names = c.args.names.now in
    let text : List ℕ = (get_or c.args.imports.now c.loop-import.import-index no_import).«module».now in
    let beginning : List ℕ = c.beginning-beginning.result.now in
    let at : c.if-ne.image ≡ found (names_in names) beginning = elim c.if-ne.branch [
      | then-ne+in_ok-image-2 w ↦ w.image-is ∙ w.in_ok-image-2.ensures
      | else-ne w ↦ w.image-is ∙ c.loop-import.invariant.image ∙ ap (found (names_in names)) (sym (same_text beginning c.loop-import.name.now (sym c.ne.ensures ∙ w.if-ne.false)))
    ] in
    at
    ∙ ap (found (names_in names)) c.beginning-beginning.ensures
    ∙ beginning_alike names.longest (names_in names) names.none_longer text (names.longest + 1) (omega arith)
    ∙ found_named c.args.modules.now (names_in names) text c.requires.named

pub resolve_once-requires-clause-placed : goal.resolve_once-requires-clause-placed
resolve_once-requires-clause-placed g c =
    let xs = c.args.imports.now in
    let i : ℕ = c.loop-import.import-index in
    let x : Import = import_view (get_or xs i no_import) in
    let inside : i < length (map import_view xs) = rw (length-map xs import_view) c.loop-import-test.true in
    let here : slice_get (map import_view xs) i ≡ Some x =
    slice_get-get_or (map import_view xs) i (import_view no_import) inside
    ∙ ap (λ (y : Import). Some y) (get_or-map import_view xs i no_import (import_view no_import) c.loop-import-test.true) in
    let image = image_of c.args.layout.now in
    let places : List ℕ = c.deref.result.now in
    let named = subst (λ (rvas : List ℕ). AreNamedAt image rvas (map import_view xs)) (sym c.deref.ensures.value) c.in_ok-places.ensures in
    let at : slice_get places i ≡ c.place_at-place.result = sym (c.place_at-place.ensures ∙ ap (λ (n : ℕ). slice_get places n) c.loop-import.invariant.number) in
    named_here image places (map import_view xs) i x named here c.place_at-place.result at

pub returns-clause-exact : goal.returns-clause-exact
returns-clause-exact g c =
    let s = modules_view c.args.modules.now in
    let xs = c.args.imports.now in
    let none = drop_all c.loop-import.import-index xs c.loop-import-test.false in (
      sym c.loop-import.invariant.rest ∙ ap (λ ys. first_error (flat_map (import_errors c.args.policy s c.args.number) (map import_view ys))) none,
      sym (append-nil c.loop-import.bindings.items)
          ∙ ap (λ ys. c.loop-import.bindings.items ++ filter_map (binding_of s c.args.number) (map import_view ys)) (sym none)
          ∙ c.loop-import.invariant.bound,
    )

pub returns-in_err-image-clause-known : goal.returns-in_err-image-clause-known
returns-in_err-image-clause-known g c = let p = err_from_is_err_and c.from_residual.result c.from_residual.ensures.1 in rw p.1 tt

pub returns-in_err-image-2-clause-known : goal.returns-in_err-image-2-clause-known
returns-in_err-image-2-clause-known g c = let p = err_from_is_err_and c.from_residual-in_err-image-2.result c.from_residual-in_err-image-2.ensures.1 in rw p.1 tt

pub returns-in_err-resolution-clause-known : goal.returns-in_err-resolution-clause-known
returns-in_err-resolution-clause-known g c = let p = err_from_is_err_and c.from_residual-in_err-resolution.result c.from_residual-in_err-resolution.ensures.1 in rw p.1 tt

pub returns-in_err-binding-clause-known : goal.returns-in_err-binding-clause-known
returns-in_err-binding-clause-known g c = let p = err_from_is_err_and c.from_residual-in_err-binding.result c.from_residual-in_err-binding.ensures.1 in rw p.1 tt

pub returns-in_err-push-clause-known : goal.returns-in_err-push-clause-known
returns-in_err-push-clause-known g c = let p = err_from_is_err_and c.from_residual-in_err-push.result c.from_residual-in_err-push.ensures.1 in rw p.1 tt

pub returns-in_err-places-clause-known : goal.returns-in_err-places-clause-known
returns-in_err-places-clause-known g c = let p = err_from_is_err_and c.from_residual-in_err-places.result c.from_residual-in_err-places.ensures.1 in rw p.1 tt

pub loop-import-init : goal.loop-import-init
loop-import-init g c = record {
  known = c.requires.known;
  remembered = c.new-remembered.ensures (modules_view c.args.modules.now) (image_of c.args.layout.now);
  trails = no_trails c.args.modules.now (file_of c.args.layout.now) c.new-trails.result (c.new-trails.ensures.texts (file_of c.args.layout.now)) c.new-trails.ensures.trails;
  number = refl;
  image = c.in_ok-image.ensures;
  rest = refl;
  bound = refl;
}
