use Rattle.std.proofs.Common.{◌∙◌, sym}
use Rattle.std.proofs.lemmas.List.Folds.{flat_map-map}
use Rattle.pe_detail.specs.DetailWords.{part_view}
use Rattle.pe_text.proofs.Adding.{◌then◌}
use Rattle.pe_json.specs.Listed.{more}
use Rattle.pe_json.specs.Refused.{value_items, values_members}
use Rattle.pe_json.proofs.Objects.{adds_none}
use Rattle.pe_json.proofs.Values.{none_of, no_values, some_values}
use Rattle.pe_json.proofs.fault.write_values.Goals as goal

pub returns-in_default : goal.returns-in_default
unfolding values_members more
returns-in_default g c = rw c.in_default.is (adds_none c.requires)

pub returns-then-have_none : goal.returns-then-have_none
unfolding values_members
returns-then-have_none g c =
    let words = c.parts-parts.ensures in
    let none = none_of (λ part. value_items (part_view part)) c.parts-parts.result ∙ sym c.have_none.ensures ∙ c.if-have_none.true in
    rw (c.in-Some.is, ← words, flat_map-map, ← no_values _ none) (adds_none c.requires)

pub returns : goal.returns
unfolding values_members
returns g c =
    let words = c.parts-parts.ensures in
    let some = none_of (λ part. value_items (part_view part)) c.parts-parts.result ∙ sym c.have_none.ensures ∙ c.if-have_none.false in
    rw (c.in-Some.is, ← words, flat_map-map, ← some_values _ some) (c.text.ensures then (rw flat_map-map at c.write_amounts.ensures) then c.text-2.ensures)
