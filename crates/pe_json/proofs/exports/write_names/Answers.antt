use Rattle.std.proofs.Common.{[], ◌&&◌, List, ℕ, map, refl, ap, ◌∙◌, subst}
use Rattle.pe_tables.specs.Key.{target_view}
use Rattle.pe_tables.specs.NameIndex.{export_view}
use Rattle.pe_json.specs.ExportRows.{name_at, row_if}
use Rattle.pe_text.specs.TextWriter.{Adds}
use Rattle.pe_json.specs.Listed.{is_nil, items_text}
use Rattle.pe_json.proofs.Objects.{items-next, items-end, also_items, first_more, adds_none, items_none, nothing_first}
use Rattle.pe_json.proofs.exports.write_names.Goals as goal

pub loop-name-init : goal.loop-name-init
loop-name-init g c = ([], rw items_none (adds_none c.requires), refl, nothing_first c.args.first)

pub loop-name-preserved : goal.loop-name-preserved
loop-name-preserved g c =
    let i = c.loop-name.invariant in
    let adds = rw c.name_at.ensures at c.write_named-is_first.ensures.adds in
    let first = rw c.name_at.ensures at c.write_named-is_first.ensures.first in
    (_, also_items c.args.first i.0 _ _ i.3 i.1 adds, items-next (λ name. row_if c.args.ordinal (target_view c.args.target.now) (name_at (map export_view c.args.names.now) name.1)) c.loop-name.name-index c.args.own.now _ _ _ c.loop-name-test.true i.2, first_more c.args.first i.0 _ _ _ i.3 first)

pub returns-clause-adds : goal.returns-clause-adds
returns-clause-adds g c =
    let i = c.loop-name.invariant in
    let all = items-end (λ name. row_if c.args.ordinal (target_view c.args.target.now) (name_at (map export_view c.args.names.now) name.1)) c.loop-name.name-index c.args.own.now _ _ c.loop-name-test.false i.2 in
    subst (λ (ts : List (List ℕ)). Adds g.W.Sink.taken g.W.Sink.failures c.args.text.now c.loop-name.text (items_text c.args.first ts)) all i.1

pub returns-clause-first : goal.returns-clause-first
returns-clause-first g c =
    let i = c.loop-name.invariant in
    let all = items-end (λ name. row_if c.args.ordinal (target_view c.args.target.now) (name_at (map export_view c.args.names.now) name.1)) c.loop-name.name-index c.args.own.now _ _ c.loop-name-test.false i.2 in
    i.3 ∙ ap (λ (ts : List (List ℕ)). c.args.first && is_nil ts) all
