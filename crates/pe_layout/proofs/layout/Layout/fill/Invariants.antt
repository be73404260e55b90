use Rattle.std.proofs.Common.{◌≡◌, ◌≤◌, ◌-◌, ◌++◌, drop, length}
use Rattle.pe_layout.specs.Image.{bytes_at}
use Rattle.pe_layout.specs.Layout.{image_of}
use Rattle.pe_layout.proofs.layout.Layout.fill.Given as goal

abbrev pub invariant-loop-done : goal.invariant-loop-done
invariant-loop-done l = (l.done ≤ length l.initial.buffer) × (l.buffer ≡ bytes_at (image_of l.self) l.rva l.done ++ drop l.done l.initial.buffer)

abbrev pub decreases-loop-done : goal.decreases-loop-done
decreases-loop-done l = length l.initial.buffer - l.done
