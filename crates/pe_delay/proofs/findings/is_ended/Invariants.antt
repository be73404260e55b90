use Rattle.std.proofs.Common.{◌≡◌, ◌+◌, length}
use Rattle.pe_layout.specs.Layout.{image_of}
use Rattle.pe_records.specs.Records.{raw_bytes}
use Rattle.pe_delay.specs.Descriptors.{descriptors_from}
use Rattle.pe_delay.specs.Left.{descriptors_left}
use Rattle.pe_delay.proofs.findings.is_ended.Given as goal

abbrev pub invariant-loop-descriptor : goal.invariant-loop-descriptor
invariant-loop-descriptor l = l.count + length (descriptors_left l.descriptors) ≡ length (descriptors_from l.start (raw_bytes (image_of l.layout) l.start) 0)

abbrev pub decreases-loop-descriptor : goal.decreases-loop-descriptor
decreases-loop-descriptor l = length (descriptors_left l.descriptors)
