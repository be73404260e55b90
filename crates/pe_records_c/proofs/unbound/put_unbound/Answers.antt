-- The imports of one more image.
use Rattle.std.proofs.Common.{ℕ, ◌≡◌, ◌∙◌, ◌+◌, ◌≤◌, ◌++◌, [], drop, map, length, refl, sym, ap, subst, append-nil, arith}
use Rattle.std.specs.Prelude.{All}
use Rattle.std.specs.List.{filter_map}
use Rattle.std.proofs.lemmas.List.{drop_all, length-map}
use Rattle.std.proofs.lemmas.List.Elements.{All-head, All-tail}
use Rattle.pe_tables.specs.ImportView.{import_view}
use Rattle.pe_tables.specs.Imports.{Import}
use Rattle.pe_set.specs.Bindings.{binding_of, bindings_in, bindings_of}
use Rattle.pe_set.specs.Numbered.{numbered}
use Rattle.pe_set.specs.Set.{Module}
use Rattle.pe_set.specs.SetView.{module_view, modules_view}
use Rattle.pe_set.proofs.Asking.{next_here, gathered}
use Rattle.pe_set.proofs.Searching.{own_imports}
use Rattle.pe_unbound.specs.Unbound.{unbound_import, unbound_in, unbound_of, HaveOwnSlots}
use Rattle.pe_unbound.proofs.Passed.{later_images}
use Rattle.pe_records_c.specs.UnboundRows.{unbound_row, unbound_text, IsPut}
use Rattle.pe_records_c.specs.declared.unbound.UnboundRow.{UnboundRow}
use Rattle.pe_records_c.proofs.Parts.{nothing_told}
use Rattle.pe_records_c.proofs.unbound.put_unbound.Goals as goal

pub loop-number-init : goal.loop-number-init
unfolding bindings_of
loop-number-init c = record {
  left = c.requires.bound;
  apart = c.requires.apart;
  small = c.requires.small;
  put = ([], record { rows = nothing_told (λ (u : ℕ × Import) (row : UnboundRow). unbound_text row ≡ unbound_row u) c.args.rows.now; count_is = refl }, refl);
  few = omega arith;
}

pub put_image-left-requires-clause-few : goal.put_image-left-requires-clause-few
put_image-left-requires-clause-few c =
    let ms = c.args.modules.now in
    let i : ℕ = c.loop-number.number in
    let m = c.index-modules-number.result in
    let rest = modules_view (drop (i + 1) ms) in
    let next = next_here ms i m c.index-modules-number.is c.loop-number-test.true in
    let imports = ap (map import_view) c.as_slice-imports.ensures.value ∙ sym (own_imports m) in
    let small = subst (λ ys. All (λ (m : Module). length m.imports ≤ 1048576) (modules_view ys)) next c.loop-number.invariant.small in
    omega (arith, All-head (λ (m : Module). length m.imports ≤ 1048576) (module_view m) rest small, ap length imports, length-map c.as_slice-imports.result.now import_view)

pub loop-number-preserved : goal.loop-number-preserved
loop-number-preserved c =
    let ms = c.args.modules.now in
    let s = modules_view ms in
    let i : ℕ = c.loop-number.number in
    let m = c.index-modules-number.result in
    let rest = modules_view (drop (i + 1) ms) in
    let next = next_here ms i m c.index-modules-number.is c.loop-number-test.true in
    let imports = ap (map import_view) c.as_slice-imports.ensures.value ∙ sym (own_imports m) in
    let later = numbered (bindings_in s) (i + 1) rest in
    let left = c.loop-number.invariant.left ∙ ap (λ ys. numbered (bindings_in s) i (modules_view ys)) next in
    let apart = subst (λ ys. All (λ (m : Module). HaveOwnSlots m.imports) (modules_view ys)) next c.loop-number.invariant.apart in
    let small = subst (λ ys. All (λ (m : Module). length m.imports ≤ 1048576) (modules_view ys)) next c.loop-number.invariant.small in
    let own = All-head (λ (m : Module). HaveOwnSlots m.imports) (module_view m) rest apart in
    let kept = c.loop-number.invariant.put.0 in
    let found = c.put_image-left.ensures.put s later kept c.args.rows.now (left ∙ ap (λ xs. filter_map (binding_of s i) xs ++ later) (sym imports)) (later_images s i rest) (subst HaveOwnSlots (sym imports) own) c.loop-number.invariant.put.1 in
    let more = kept ++ filter_map (unbound_import s i) (map import_view c.as_slice-imports.result.now) in
    record {
      left = found.0;
      apart = All-tail (λ (m : Module). HaveOwnSlots m.imports) (module_view m) rest apart;
      small = All-tail (λ (m : Module). length m.imports ≤ 1048576) (module_view m) rest small;
      put = (
        more,
        found.1,
        gathered module_view ms i m next kept (numbered (unbound_in s) 0 s) (unbound_in s) c.loop-number.invariant.put.2 more (ap (λ xs. kept ++ filter_map (unbound_import s i) xs) imports),
      );
      few = omega (arith, c.loop-number.invariant.few, c.put_image-left.ensures.few, All-head (λ (m : Module). length m.imports ≤ 1048576) (module_view m) rest small, ap length imports, length-map c.as_slice-imports.result.now import_view);
    }

pub returns : goal.returns
unfolding unbound_of
returns c =
    let ms = c.args.modules.now in
    let s = modules_view ms in
    let i : ℕ = c.loop-number.number in
    let kept = c.loop-number.invariant.put.0 in
    subst (λ us. IsPut us c.args.rows.now c.loop-number.rows c.loop-number.count)
    (sym (append-nil kept) ∙ ap (λ xs. kept ++ numbered (unbound_in s) i (modules_view xs)) (sym (drop_all i ms c.loop-number-test.false)) ∙ c.loop-number.invariant.put.2)
    c.loop-number.invariant.put.1
