use Rattle.std.proofs.Common.{◌≡◌, ◌≢◌, ◌≤◌, [], ◌++◌, length}
use Rattle.pe_view.specs.Standing.{standing}
use Rattle.pe_view.specs.TextEnds.{AreEndsOf}
use Rattle.pe_layout.specs.Layout.{file_of, image_of}
use Rattle.pe_delay.specs.Descriptors.{delay_descriptors}
use Rattle.pe_delay.specs.Findings.{descriptors_tests}
use Rattle.pe_delay.specs.Left.{descriptors_left}
use Rattle.pe_delay.proofs.findings.find_descriptors.Given as goal

abbrev pub invariant-loop-descriptor : goal.invariant-loop-descriptor
invariant-loop-descriptor g l =
    let i = image_of l.layout in
    (l.findings.items ++ standing (descriptors_tests i l.read (descriptors_left l.descriptors)) ≡ l.fn.findings.items ++ standing (descriptors_tests i 0 (delay_descriptors i)))
    × (standing (descriptors_tests i l.read (descriptors_left l.descriptors)) ≢ [] → standing (descriptors_tests i 0 (delay_descriptors i)) ≢ [])
    × AreEndsOf (file_of l.layout) l.ends
    × (l.read ≤ 1048576)

abbrev pub decreases-loop-descriptor : goal.decreases-loop-descriptor
decreases-loop-descriptor g l = length (descriptors_left l.descriptors)
