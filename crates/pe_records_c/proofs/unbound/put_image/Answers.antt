-- One more import of the image.
use Rattle.std.proofs.Common.{ℕ, ◌∙◌, ◌+◌, ◌++◌, drop, map, get_or, refl, sym, ap, subst, append-nil, arith}
use Rattle.std.specs.List.{filter_map}
use Rattle.std.proofs.lemmas.List.{drop_all}
use Rattle.pe_tables.specs.ImportView.{import_view}
use Rattle.pe_tables.specs.Imports.{Import}
use Rattle.pe_set.specs.Bindings.{binding_of}
use Rattle.pe_set.proofs.Asking.{next_item, gathered_some}
use Rattle.pe_set.proofs.Defaults.{no_import}
use Rattle.pe_unbound.specs.Unbound.{unbound_import, after_slot, kept_unless, HaveOwnSlots}
use Rattle.pe_unbound.proofs.Passed.{moved, own_head, own_tail}
use Rattle.pe_records_c.specs.UnboundRows.{IsPut}
use Rattle.pe_records_c.proofs.unbound.put_image.Goals as goal

pub loop-import-init : goal.loop-import-init
loop-import-init c = record {
  put = λ s later first old own late differ start. (own, differ, (first, start, refl));
  few = omega arith;
}

pub put_one-left-requires : goal.put_one-left-requires
put_one-left-requires c = omega (arith, c.loop-import.invariant.few, c.requires.few, c.requires.room, c.loop-import-test.true)

pub loop-import-preserved : goal.loop-import-preserved
loop-import-preserved c = record {
  put = λ s later first old own late differ start.
      let xs = c.args.imports.now in
      let i : ℕ = c.loop-import.import-index in
      let n : ℕ = c.args.number in
      let x : Import = import_view (get_or xs i no_import) in
      let rest = map import_view (drop (i + 1) xs) in
      let next = next_item xs i no_import c.loop-import-test.true in
      let before = c.loop-import.invariant.put s later first old own late differ start in
      let slots = subst (λ ys. HaveOwnSlots (map import_view ys)) next before.1 in
      let here = before.0 ∙ ap (λ ys. filter_map (binding_of s n) (map import_view ys) ++ later) next in
      let step = moved s n x rest later late (own_head x rest slots) c.loop-import.left.now here in
      let kept = before.2.0 in
      let more = kept ++ kept_unless (after_slot c.loop-import.left.now n x.slot) (n, x) in (
        c.put_one-left.ensures.left ∙ step.0,
        own_tail x rest slots,
        (
          more,
          c.put_one-left.ensures.put kept old before.2.1,
          gathered_some import_view xs i (get_or xs i no_import) next kept _ (unbound_import s n) before.2.2 more (ap (λ us. kept ++ us) step.1),
        ),
      );
  few = omega (arith, c.loop-import.invariant.few, c.put_one-left.ensures.few);
}

pub returns-clause-put : goal.returns-clause-put
returns-clause-put c = λ s later first old own late differ start.
    let n : ℕ = c.args.number in
    let last = c.loop-import.invariant.put s later first old own late differ start in
    let none = drop_all c.loop-import.import-index c.args.imports.now c.loop-import-test.false in
    let kept = last.2.0 in (
      last.0 ∙ ap (λ ys. filter_map (binding_of s n) (map import_view ys) ++ later) none,
      subst (λ us. IsPut us old c.loop-import.rows c.loop-import.count)
          (sym (append-nil kept) ∙ ap (λ ys. kept ++ filter_map (unbound_import s n) (map import_view ys)) (sym none) ∙ last.2.2) last.2.1,
    )
