use Rattle.pe_ranges.specs.RangesView.{ranges_in}
use Rattle.pe_set.proofs.EqualSlots.{all_equal}
use Rattle.pe_set.proofs.delayed.add_slot.Goals as goal

pub add-requires : goal.add-requires
add-requires g c = all_equal c.args.slot c.args.width (ranges_in c.args.slots.now) c.requires.widths
