-- The number's bits that are below the count of slots.
use Rattle.std.proofs.Common.{refl}
use Rattle.coff_object.specs.Slots.{base}
use Rattle.coff_object.proofs.slots.base.Goals as goal

pub returns-clause-first : goal.returns-clause-first
unfolding base
returns-clause-first c = rw (c.mark.ensures, c.saturating_sub.ensures) refl
