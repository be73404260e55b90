-- Each place has what the map has.
use Rattle.pe_tables.specs.TextMap.{found}
use Rattle.pe_tables.specs.TextMapView.{entries_in}
use Rattle.pe_tables.proofs.TextSlots.{held_as}
use Rattle.pe_tables.proofs.text_slots.TextSlots.for_names.Goals as goal

pub returns : goal.returns
returns g c = λ text. held_as (λ t. found t (entries_in c.args.map.now)) text c.loop-upcoming.slots.items c.loop-upcoming.invariant.hold
