use Rattle.std.proofs.Common.{ℕ, List, ◌≡◌, ◌∙◌, ◌+◌, ◌++◌, drop, map, get_or, refl, sym, ap, subst, append-nil}
use Rattle.std.specs.List.{filter_map}
use Rattle.std.proofs.lemmas.List.{drop_all}
use Rattle.pe_tables.specs.ImportView.{import_view}
use Rattle.pe_tables.specs.Imports.{Import}
use Rattle.pe_set.specs.Bindings.{binding_of}
use Rattle.pe_set.proofs.Asking.{next_item, gathered_some}
use Rattle.pe_set.proofs.Defaults.{no_import}
use Rattle.pe_unbound.specs.Unbound.{unbound_import, HaveOwnSlots}
use Rattle.pe_map_lines.specs.UnboundImports.{unbound_view}
use Rattle.pe_unbound.proofs.Passed.{moved, own_head, own_tail}
use Rattle.pe_map_lines.proofs.unbound_imports.gather.Goals as goal

pub loop-import-init : goal.loop-import-init
loop-import-init g c = λ s later own late differ. (own, differ, refl)

pub loop-import-preserved : goal.loop-import-preserved
loop-import-preserved g c = λ s later own late differ.
    let xs = c.args.imports.now in
    let i : ℕ = c.loop-import.import-index in
    let n : ℕ = c.args.number in
    let x : Import = import_view (get_or xs i no_import) in
    let rest = map import_view (drop (i + 1) xs) in
    let next = next_item xs i no_import c.loop-import-test.true in
    let before = c.loop-import.invariant s later own late differ in
    let slots = subst (λ ys. HaveOwnSlots (map import_view ys)) next before.1 in
    let here = before.0 ∙ ap (λ ys. filter_map (binding_of s n) (map import_view ys) ++ later) next in
    let step = moved s n x rest later late (own_head x rest slots) c.loop-import.left.now here in
    let kept = map unbound_view c.loop-import.unbound.items in (
      c.in_ok-left.ensures.left ∙ step.0,
      own_tail x rest slots,
      gathered_some import_view xs i (get_or xs i no_import) next kept _ (unbound_import s n) before.2 (map unbound_view c.gather_one.new.unbound.items)
          (c.in_ok-left.ensures.kept ∙ ap (λ us. kept ++ us) step.1),
    )

pub returns : goal.returns
returns g c = λ s later own late differ.
    let n : ℕ = c.args.number in
    let last = c.loop-import.invariant s later own late differ in
    let none = drop_all c.loop-import.import-index c.args.imports.now c.loop-import-test.false in
    let kept = map unbound_view c.loop-import.unbound.items in (
      last.0 ∙ ap (λ ys. filter_map (binding_of s n) (map import_view ys) ++ later) none,
      sym (append-nil kept) ∙ ap (λ ys. kept ++ filter_map (unbound_import s n) (map import_view ys)) (sym none) ∙ last.2,
    )
