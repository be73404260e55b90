-- No offset is found by a slot before.
use Rattle.std.proofs.Common.{◌≡◌, ℕ, ◌<◌, None}
use Rattle.std.specs.Prelude.{slice_index}
use Rattle.coff_object.specs.Slots.{offset_at}
use Rattle.coff_object.proofs.slots.seek.Given as goal

abbrev pub invariant-loop-slot : goal.invariant-loop-slot
invariant-loop-slot l = (j : ℕ) → j < l.slot-index → offset_at l.entries l.text (slice_index l.slot-items j) ≡ None
