use Rattle.std.proofs.Common.{◌≡◌, ◌≤◌, ◌-◌, length}
use Rattle.pe_layout.specs.Image.{bytes_at}
use Rattle.pe_layout.specs.Layout.{image_of}
use Rattle.pe_layout.proofs.layout.Layout.bytes.Given as goal

abbrev pub invariant-loop-bytes : goal.invariant-loop-bytes
invariant-loop-bytes g l = (length l.bytes.items ≤ (image_of l.self).size) × (l.bytes.items ≡ bytes_at (image_of l.self) 0 (length l.bytes.items))

abbrev pub decreases-loop-bytes : goal.decreases-loop-bytes
decreases-loop-bytes g l = (image_of l.self).size - length l.bytes.items
