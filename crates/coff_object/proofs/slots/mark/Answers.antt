-- The hasher's number of the last bytes, and the spread length.
use Rattle.std.proofs.Common.{refl}
use Rattle.coff_object.specs.Slots.{mark}
use Rattle.coff_object.proofs.slots.mark.Goals as goal

pub returns : goal.returns
unfolding mark
returns c = rw (c.finish.ensures, c.write.ensures, c.default-hasher.ensures, c.saturating_sub.ensures) refl
