use Rattle.std.proofs.Common.{[], true, List, ℕ, map, drop, refl, ap, sym, ◌∙◌, subst}
use Rattle.std.specs.Prelude.{flat_map}
use Rattle.pe_tables.specs.ExportsView.{ordinal_view, by_ordinal_view}
use Rattle.pe_tables.specs.NameIndex.{export_view}
use Rattle.pe_json.specs.ExportRows.{ordinal_rows}
use Rattle.pe_text.specs.TextWriter.{Adds}
use Rattle.pe_json.specs.Listed.{items_text}
use Rattle.pe_json.proofs.Objects.{items-next, items-end, also_items, first_more, adds_none, items_none, items_more, left-out}
use Rattle.pe_json.proofs.exports.write_ordinals.Goals as goal

pub loop-ordinal-init : goal.loop-ordinal-init
loop-ordinal-init g c = ([], rw items_none (adds_none c.requires), refl, refl)

pub loop-ordinal-preserved : goal.loop-ordinal-preserved
loop-ordinal-preserved g c =
    let i = c.loop-ordinal.invariant in
    let adds = rw c.of-own.ensures at c.write_ordinal-first.ensures.adds in
    let first = rw c.of-own.ensures at c.write_ordinal-first.ensures.first in
    (_, also_items true i.0 _ _ i.3 i.1 adds, items-next (λ pair. ordinal_rows (map export_view c.args.exports.now) (by_ordinal_view c.args.names.now) (ordinal_view pair)) c.loop-ordinal.ordinal-index c.args.ordinals.now _ _ _ c.loop-ordinal-test.true i.2, first_more true i.0 _ _ _ i.3 first)

pub returns : goal.returns
returns g c =
    let i = c.loop-ordinal.invariant in
    let all = items-end (λ pair. ordinal_rows (map export_view c.args.exports.now) (by_ordinal_view c.args.names.now) (ordinal_view pair)) c.loop-ordinal.ordinal-index c.args.ordinals.now _ _ c.loop-ordinal-test.false i.2 in
    subst (λ (ts : List (List ℕ)). Adds g.W.Sink.taken g.W.Sink.failures c.args.text.now c.loop-ordinal.text (items_text true ts)) all i.1

pub returns-then-has_failed : goal.returns-then-has_failed
returns-then-has_failed g c =
    let i = c.loop-ordinal.invariant in
    left-out _ _ _ _ _ i.1 (c.has_failed.ensures.ends c.if-has_failed.true)
    (sym (items_more true i.0 (flat_map (λ pair. ordinal_rows (map export_view c.args.exports.now) (by_ordinal_view c.args.names.now) (ordinal_view pair)) (drop c.loop-ordinal.ordinal-index c.args.ordinals.now))) ∙ ap (items_text true) i.2)
