use Rattle.std.proofs.Common.{◌≡◌, ◌+◌, ◌-◌, ◌^◌, ◌<◌}
use Rattle.pe_view.specs.View.{bytes_of}
use Rattle.pe_trust.specs.CertificateTests.{stop_of, whole_end}
use Rattle.pe_trust.proofs.certificate_finding.stop_of.Given as goal

abbrev pub invariant-loop-certificate : goal.invariant-loop-certificate
invariant-loop-certificate l = (stop_of (bytes_of l.file) l.end l.at ≡ stop_of (bytes_of l.file) (whole_end (bytes_of l.file) l.fn.table) l.fn.table.rva) × (l.at < 2 ^ 33 + 8)

abbrev pub decreases-loop-certificate : goal.decreases-loop-certificate
decreases-loop-certificate l = l.end + 8 - l.at
