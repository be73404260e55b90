use Rattle.std.proofs.Common.{ℕ, List, ◌≡◌, ◌∙◌, ◌+◌, ◌++◌, drop, map, sym, ap, subst, append-nil}
use Rattle.std.specs.Prelude.{All}
use Rattle.std.specs.List.{filter_map}
use Rattle.std.proofs.lemmas.List.{drop_all}
use Rattle.std.proofs.lemmas.List.Elements.{All-head, All-tail}
use Rattle.pe_tables.specs.ImportView.{import_view}
use Rattle.pe_set.specs.Bindings.{binding_of, bindings_in, bindings_of}
use Rattle.pe_set.specs.Numbered.{numbered}
use Rattle.pe_set.specs.Set.{Module}
use Rattle.pe_set.specs.SetView.{module_view, modules_view}
use Rattle.pe_set.proofs.Asking.{next_here, gathered}
use Rattle.pe_set.proofs.Searching.{own_imports}
use Rattle.pe_unbound.specs.Unbound.{unbound_import, unbound_in, unbound_of, HaveOwnSlots}
use Rattle.pe_map_lines.specs.UnboundImports.{unbound_view}
use Rattle.pe_unbound.proofs.Passed.{later_images}
use Rattle.pe_map_lines.proofs.unbound_imports.gather_all.Goals as goal

pub loop-number-init : goal.loop-number-init
unfolding bindings_of
loop-number-init g c =
    let s = modules_view c.args.modules.now in
    record {
      left = c.requires.bound;
      apart = c.requires.apart;
      told = ap (λ us. map unbound_view us ++ numbered (unbound_in s) 0 s) c.new-unbound.ensures.items;
    }

pub loop-number-preserved : goal.loop-number-preserved
loop-number-preserved g c =
    let ms = c.args.modules.now in
    let s = modules_view ms in
    let i : ℕ = c.loop-number.number in
    let m = c.index-modules-number.result in
    let rest = modules_view (drop (i + 1) ms) in
    let next = next_here ms i m c.index-modules-number.is c.loop-number-test.true in
    let imports = ap (map import_view) c.as_slice-imports.ensures.value ∙ sym (own_imports m) in
    let later = numbered (bindings_in s) (i + 1) rest in
    let left = c.loop-number.invariant.left ∙ ap (λ ys. numbered (bindings_in s) i (modules_view ys)) next in
    let apart = subst (λ ys. All (λ (m : Module). HaveOwnSlots m.imports) (modules_view ys)) next c.loop-number.invariant.apart in
    let own = All-head (λ (m : Module). HaveOwnSlots m.imports) (module_view m) rest apart in
    let kept = map unbound_view c.loop-number.unbound.items in
    let found = c.in_ok-left.ensures s later (left ∙ ap (λ xs. filter_map (binding_of s i) xs ++ later) (sym imports)) (later_images s i rest) (subst HaveOwnSlots (sym imports) own) in
    record {
      left = found.0;
      apart = All-tail (λ (m : Module). HaveOwnSlots m.imports) (module_view m) rest apart;
      told = gathered module_view ms i m next kept (numbered (unbound_in s) 0 s) (unbound_in s) c.loop-number.invariant.told (map unbound_view c.gather.new.unbound.items)
          (found.1 ∙ ap (λ xs. kept ++ filter_map (unbound_import s i) xs) imports);
    }

pub returns-clause-exact : goal.returns-clause-exact
unfolding unbound_of
returns-clause-exact g c =
    let ms = c.args.modules.now in
    let s = modules_view ms in
    let i : ℕ = c.loop-number.number in
    let kept = map unbound_view c.loop-number.unbound.items in
    sym (append-nil kept)
    ∙ ap (λ xs. kept ++ numbered (unbound_in s) i (modules_view xs)) (sym (drop_all i ms c.loop-number-test.false))
    ∙ c.loop-number.invariant.told
