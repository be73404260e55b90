use Rattle.std.proofs.Common.{take}
use Rattle.pe_space.specs.FileSpaceView.{SlotCounts}
use Rattle.pe_space.proofs.file_space.count_slots.Given as goal

abbrev pub invariant-loop-binding : goal.invariant-loop-binding
invariant-loop-binding g l = SlotCounts l.images (take l.binding-index l.bindings) l.counts.items
