use Rattle.std.proofs.Common.{[], true, List, ℕ, refl, sym, ◌∙◌, subst}
use Rattle.std.proofs.lemmas.List.Folds.{flat_map-map}
use Rattle.pe_detail.specs.DetailWords.{part_view}
use Rattle.pe_text.specs.TextWriter.{Adds}
use Rattle.pe_json.specs.Listed.{items_text}
use Rattle.pe_json.specs.Refused.{value_items}
use Rattle.pe_json.proofs.Objects.{items-next, items-end, also_items, first_more, adds_none, items_none}
use Rattle.pe_json.proofs.fault.write_amounts.Goals as goal

pub loop-part-init : goal.loop-part-init
loop-part-init g c = ([], rw items_none (adds_none c.requires), refl, refl)

pub loop-part-preserved : goal.loop-part-preserved
loop-part-preserved g c =
    let i = c.loop-part.invariant in
    (_, also_items true i.0 _ _ i.3 i.1 c.write_value-first.ensures.adds, items-next (λ part. value_items (part_view part)) c.loop-part.part-index c.args.parts.now _ _ _ c.loop-part-test.true i.2, first_more true i.0 _ _ _ i.3 c.write_value-first.ensures.first)

pub returns : goal.returns
returns g c =
    let i = c.loop-part.invariant in
    let all = items-end (λ part. value_items (part_view part)) c.loop-part.part-index c.args.parts.now _ _ c.loop-part-test.false i.2 in
    subst (λ (ts : List (List ℕ)). Adds g.W.Sink.taken g.W.Sink.failures c.args.text.now c.loop-part.text (items_text true ts)) (all ∙ sym (flat_map-map value_items part_view c.args.parts.now)) i.1
