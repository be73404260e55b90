use Rattle.pe_tables.specs.TextMap.{TextsAscend}
use Rattle.pe_tables.specs.TextSlots.{HoldAs}
use Rattle.pe_tables.proofs.text_slots.TextSlots.for_names.Given as goal

abbrev pub invariant-loop-upcoming : goal.invariant-loop-upcoming
invariant-loop-upcoming g l = record {
  ascend : TextsAscend l.slots.items;
  hold : HoldAs l.map l.slots.items;
}
