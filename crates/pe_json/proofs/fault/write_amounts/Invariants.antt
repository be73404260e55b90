use Rattle.std.proofs.Common.{◌≡◌, ◌&&◌, ◌++◌, true, ℕ, List, drop}
use Rattle.std.specs.Prelude.{flat_map}
use Rattle.pe_detail.specs.DetailWords.{part_view}
use Rattle.pe_text.specs.TextWriter.{Adds}
use Rattle.pe_json.specs.Listed.{is_nil, items_text}
use Rattle.pe_json.specs.Refused.{value_items}
use Rattle.pe_json.proofs.fault.write_amounts.Given as goal

abbrev pub invariant-loop-part : goal.invariant-loop-part
invariant-loop-part g l = (written : List (List ℕ)) × Adds g.W.Sink.taken g.W.Sink.failures l.initial.text l.text (items_text true written)
    × (written ++ flat_map (λ part. value_items (part_view part)) (drop l.part-index l.parts) ≡ flat_map (λ part. value_items (part_view part)) l.parts)
    × (l.first ≡ (true && is_nil written))
