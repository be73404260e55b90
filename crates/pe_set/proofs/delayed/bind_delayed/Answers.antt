use Rattle.std.proofs.Common.{◌∙◌, ◌≡◌, ◌+◌, ◌<◌, ◌≤◌, ◌^◌, ◌++◌, ◌∷◌, [], ℕ, List, Some, length, arith, map, take, sym, ap, subst, refl, append-nil, get_or}
use Rattle.std.specs.Prelude.{slice_get, All}
use Rattle.std.specs.List.{flat_map, filter_map}
use Rattle.std.proofs.lemmas.List.{drop_all, get_or-map, length-map, take_more}
use Rattle.std.proofs.lemmas.List.Elements.{All-get_or}
use Rattle.std.proofs.lemmas.Option.{slice_get-get_or}
use Rattle.std.proofs.lemmas.Result.{err_from_is_err_and}
use Rattle.pe_layout.specs.Image.{LaidOut}
use Rattle.pe_layout.specs.Layout.{file_of, image_of, size_small}
use Rattle.pe_ranges.specs.Ranges.{SameRanges}
use Rattle.pe_ranges.specs.RangesView.{ranges_in}
use Rattle.pe_tables.specs.ImportNames.{AreNamedAt}
use Rattle.pe_tables.specs.ImportView.{import_view}
use Rattle.pe_tables.specs.Imports as table
use Rattle.pe_tables.specs.declared.import.Import.{Import}
use Rattle.pe_delay.specs.Imports.{delay_imports_of}
use Rattle.pe_delay.specs.Names.{delay_names_of}
use Rattle.pe_set.specs.Bindings.{binding_of}
use Rattle.pe_set.specs.DelayedImports.{own_slot_at, stays_inside, staying, slot_ranges}
use Rattle.pe_set.specs.NamesView.{names_in}
use Rattle.pe_set.specs.Numbered.{numbered}
use Rattle.pe_set.specs.Search.{resolve}
use Rattle.pe_set.specs.SetErrors.{ErrorIs, import_errors, first_error}
use Rattle.pe_set.specs.SetView.{modules_view}
use Rattle.pe_set.specs.declared.binding.Binding.{Binding}
use Rattle.pe_set.specs.declared.error.MapError.{MapError}
use Rattle.pe_set.specs.declared.entry.Policy.TheVariants.{Known}
use Rattle.pe_set.proofs.Asking.{next_item, gathered}
use Rattle.pe_set.proofs.AskingErrors.{errors_past, errors_in, errors_all, error-whole}
use Rattle.pe_set.proofs.Defaults.{no_import}
use Rattle.pe_set.proofs.DelayedSteps.{errors_now, bound_now, kept_now, slots_next}
use Rattle.pe_set.proofs.EqualSlots.{same_equal}
use Rattle.pe_set.proofs.NumberedLists.{numbered-flat_map, numbered-filter_map, numbered-filter}
use Rattle.pe_set.proofs.Owning.{named_here}
use Rattle.pe_set.proofs.Searching.{found_named}
use Rattle.pe_set.proofs.Trailing.{no_trails}
use Rattle.pe_set.proofs.delayed.bind_delayed.Goals as goal

-- a delay-loaded import of an image ends in it
ends_inside : (image : LaidOut) (xs : List Import) (i width : ℕ) → map import_view xs ≡ delay_imports_of image → width ≡ image.slot_width → image.size ≤ 2 ^ 31 → i < length xs
    → All (λ (x : table.Import). x.slot + image.slot_width ≤ image.size) (delay_imports_of image) → (get_or xs i no_import).slot + width < 2 ^ 32
ends_inside image xs i width found is small lt all =
    let inside : i < length (map import_view xs) = rw (length-map xs import_view) lt in
    let one = All-get_or (λ (x : table.Import). x.slot + image.slot_width ≤ image.size) (map import_view xs) i (import_view no_import) inside
    (subst (All (λ (x : table.Import). x.slot + image.slot_width ≤ image.size)) (sym found) all) in
    let here = subst (λ (x : table.Import). x.slot + image.slot_width ≤ image.size) (get_or-map import_view xs i no_import (import_view no_import) lt) one in
    omega (arith, here, small, is)

-- the imports up to the next
next_taken : (xs : List Import) (i : ℕ) → i < length xs → take (i + 1) (map import_view xs) ≡ take i (map import_view xs) ++ import_view (get_or xs i no_import) ∷ []
next_taken xs i lt =
    let inside : i < length (map import_view xs) = rw (length-map xs import_view) lt in
    take_more (map import_view xs) i (import_view no_import) inside ∙ ap (λ x. take i (map import_view xs) ++ x ∷ []) (get_or-map import_view xs i no_import (import_view no_import) lt)

pub resolve_once-requires-clause-image : goal.resolve_once-requires-clause-image
resolve_once-requires-clause-image g c =
    let text : List ℕ = (get_or c.deref-import-items.result.now c.loop-index.index no_import).«module».now in
    c.in_ok-image.ensures ∙ found_named c.args.modules.now (names_in c.args.names.now) text c.requires.named

pub resolve_once-requires-clause-placed : goal.resolve_once-requires-clause-placed
resolve_once-requires-clause-placed g c =
    let xs = c.deref-import-items.result.now in
    let i : ℕ = c.loop-index.index in
    let x = import_view (get_or xs i no_import) in
    let image = image_of c.args.layout.now in
    let inside : i < length (map import_view xs) = rw (length-map xs import_view) c.loop-index-test.true in
    let here : slice_get (map import_view xs) i ≡ Some x =
    slice_get-get_or (map import_view xs) i (import_view no_import) inside
    ∙ ap (λ (y : table.Import). Some y) (get_or-map import_view xs i no_import (import_view no_import) c.loop-index-test.true) in
    let named = subst (λ (rvas : List ℕ). AreNamedAt image rvas (map import_view xs)) (sym (c.deref.ensures.value ∙ c.in_ok-found.ensures.names))
    (subst (AreNamedAt image (delay_names_of image)) (sym (ap (map import_view) c.deref-import-items.ensures.value ∙ c.in_ok-found.ensures.imports)) (c.delay_imports_have_their_names.ensures image)) in
    named_here image c.deref.result.now (map import_view xs) i x named here c.place_at-place.result (sym c.place_at-place.ensures)

pub bind_one-requires-clause-small : goal.bind_one-requires-clause-small
bind_one-requires-clause-small g c =
    let image = image_of c.args.layout.now in
    ends_inside image c.deref-import-items.result.now c.loop-index.index c.slot_width-width.result (ap (map import_view) c.deref-import-items.ensures.value ∙ c.in_ok-found.ensures.imports) c.slot_width-width.ensures.value (size_small c.args.layout.now) c.loop-index-test.true
    (c.delay_slots_are_inside.ensures.inside image)

pub bind_one-requires-clause-widths : goal.bind_one-requires-clause-widths
bind_one-requires-clause-widths g c =
    same_equal c.slot_width-width.result (ranges_in c.loop-index.slots) (map import_view c.args.imports.now ++ take c.loop-index.index (map import_view c.deref-import-items.result.now)) c.loop-index.invariant.slots

pub returns-in_err-bind_one-clause-exact : goal.returns-in_err-bind_one-clause-exact
returns-in_err-bind_one-clause-exact g c =
    let s = modules_view c.args.modules.now in
    let n : ℕ = c.args.number in
    let image = image_of c.args.layout.now in
    let imports = map import_view c.args.imports.now in
    let xs = c.deref-import-items.result.now in
    let i : ℕ = c.loop-index.index in
    let x = get_or xs i no_import in
    let error = c.in_err-bind_one.field-0.0 in
    let f : ℕ → table.Import → List MapError = (λ k (y : table.Import). flat_map (import_errors Known s n) (own_slot_at image imports k y)) in
    let p = err_from_is_err_and c.from_residual-in_err-bind_one.result c.from_residual-in_err-bind_one.ensures.1 in
    let now = errors_now s n image imports (map import_view xs) c.slot_width-width.result (ranges_in c.loop-index.slots) i (import_view x) c.in_ok-resolution.resolution
    (ap (map import_view) c.deref-import-items.ensures.value ∙ c.in_ok-found.ensures.imports) c.slot_width-width.ensures.value c.loop-index.invariant.slots c.in_ok-resolution.ensures.exact in
    let refused = subst (λ o. ErrorIs o error) (sym now) c.in_err-bind_one.ensures.exact in
    let whole = numbered-flat_map (import_errors Known s n) (own_slot_at image imports) 0 (delay_imports_of image) ∙ ap (numbered f 0) (sym (ap (map import_view) c.deref-import-items.ensures.value ∙ c.in_ok-found.ensures.imports)) in
    rw (p.1, p.2) (subst (λ es. ErrorIs (first_error es) error) (sym whole)
    (error-whole (first_error (f i (import_view x))) (first_error (numbered f 0 (map import_view xs)))
    (errors_in import_view f xs i x (next_item xs i no_import c.loop-index-test.true) c.loop-index.invariant.rest)
    error refused))

pub loop-index-preserved : goal.loop-index-preserved
loop-index-preserved g c =
    let s = modules_view c.args.modules.now in
    let n : ℕ = c.args.number in
    let image = image_of c.args.layout.now in
    let imports = map import_view c.args.imports.now in
    let xs = c.deref-import-items.result.now in
    let ds = map import_view xs in
    let i : ℕ = c.loop-index.index in
    let x = get_or xs i no_import in
    let w : ℕ = c.slot_width-width.result in
    let next = next_item xs i no_import c.loop-index-test.true in
    let found = (ap (map import_view) c.deref-import-items.ensures.value ∙ c.in_ok-found.ensures.imports) in
    let width = c.slot_width-width.ensures.value in
    let end = c.in_ok-resolution.resolution in
    let is = c.in_ok-resolution.ensures.exact in
    let ranges = ranges_in c.loop-index.slots in
    let same = c.loop-index.invariant.slots in
    record {
      known = c.in_ok-resolution.ensures.known;
      remembered = c.in_ok-resolution.ensures.remembered;
      trails = c.in_ok-resolution.ensures.trails;
      slots = slots_next w imports (take i ds) (take (i + 1) ds) (import_view x) ranges (ranges_in c.bind_one.new.slots) (next_taken xs i c.loop-index-test.true) same c.in_ok-bind_one.ensures.gains;
      rest = errors_past import_view (λ k (y : table.Import). flat_map (import_errors Known s n) (own_slot_at image imports k y)) xs i x next c.loop-index.invariant.rest
          (errors_now s n image imports ds w ranges i (import_view x) end found width same is ∙ c.in_ok-bind_one.ensures.exact.0);
      bound = gathered import_view xs i x next c.loop-index.bindings.items _ (λ k (y : table.Import). filter_map (binding_of s n) (own_slot_at image imports k y)) c.loop-index.invariant.bound c.bind_one.new.bindings.items
          (c.in_ok-bind_one.ensures.exact.1 ∙ ap (λ bs. c.loop-index.bindings.items ++ bs) (sym (bound_now s n image imports ds w ranges i (import_view x) end found width same is)));
      kept = gathered import_view xs i x next (map import_view c.loop-index.delayed.items) _ (λ k (y : table.Import). staying s (own_slot_at image imports k y)) c.loop-index.invariant.kept (map import_view c.bind_one.new.delayed.items)
          (c.in_ok-bind_one.ensures.kept ∙ ap (λ ys. map import_view c.loop-index.delayed.items ++ ys) (sym (kept_now s n image imports ds w ranges i (import_view x) end found width same is)));
    }

pub returns-clause-exact : goal.returns-clause-exact
returns-clause-exact g c =
    let s = modules_view c.args.modules.now in
    let n : ℕ = c.args.number in
    let image = image_of c.args.layout.now in
    let imports = map import_view c.args.imports.now in
    let xs = c.deref-import-items.result.now in
    let i : ℕ = c.loop-index.index in
    let f : ℕ → table.Import → List MapError = (λ k (y : table.Import). flat_map (import_errors Known s n) (own_slot_at image imports k y)) in
    let b : ℕ → table.Import → List Binding = (λ k (y : table.Import). filter_map (binding_of s n) (own_slot_at image imports k y)) in
    let found = (ap (map import_view) c.deref-import-items.ensures.value ∙ c.in_ok-found.ensures.imports) in (
      ap first_error (numbered-flat_map (import_errors Known s n) (own_slot_at image imports) 0 (delay_imports_of image) ∙ ap (numbered f 0) (sym found))
          ∙ errors_all import_view f xs i c.loop-index-test.false c.loop-index.invariant.rest,
      sym (append-nil c.loop-index.bindings.items)
          ∙ ap (λ ys. c.loop-index.bindings.items ++ numbered b i (map import_view ys)) (sym (drop_all i xs c.loop-index-test.false))
          ∙ c.loop-index.invariant.bound
          ∙ ap (λ bs. c.args.bindings.now.items ++ bs) (sym (numbered-filter_map (binding_of s n) (own_slot_at image imports) 0 (delay_imports_of image) ∙ ap (numbered b 0) (sym found))),
    )

pub returns-clause-kept : goal.returns-clause-kept
returns-clause-kept g c =
    let s = modules_view c.args.modules.now in
    let image = image_of c.args.layout.now in
    let imports = map import_view c.args.imports.now in
    let xs = c.deref-import-items.result.now in
    let i : ℕ = c.loop-index.index in
    let kept : ℕ → table.Import → List table.Import = (λ k (y : table.Import). staying s (own_slot_at image imports k y)) in
    let found = (ap (map import_view) c.deref-import-items.ensures.value ∙ c.in_ok-found.ensures.imports) in
    sym (append-nil (map import_view c.loop-index.delayed.items))
    ∙ ap (λ ys. map import_view c.loop-index.delayed.items ++ numbered kept i (map import_view ys)) (sym (drop_all i xs c.loop-index-test.false))
    ∙ c.loop-index.invariant.kept
    ∙ sym (numbered-filter (λ (x : table.Import). stays_inside (resolve s x.module_name x.key)) (own_slot_at image imports) 0 (delay_imports_of image) ∙ ap (numbered kept 0) (sym found))

pub loop-index-init : goal.loop-index-init
loop-index-init g c =
    let s = modules_view c.args.modules.now in
    let image = image_of c.args.layout.now in
    let imports = map import_view c.args.imports.now in
    record {
      known = c.requires.known;
      remembered = c.new-remembered.ensures s image;
      trails = no_trails c.args.modules.now (file_of c.args.layout.now) c.new-trails.result (c.new-trails.ensures.texts (file_of c.args.layout.now)) c.new-trails.ensures.trails;
      slots = subst (λ xs. SameRanges (ranges_in c.in_ok-slots.slots) (slot_ranges c.slot_width-width.result xs)) (sym (append-nil imports)) c.in_ok-slots.ensures;
      rest = refl;
      bound = refl;
      kept = ap (λ xs. map import_view xs ++ numbered (λ k (y : table.Import). staying s (own_slot_at image imports k y)) 0 (map import_view c.deref-import-items.result.now)) c.new-delayed.ensures.items;
    }
