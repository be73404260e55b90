use Rattle.std.proofs.Common.{◌≡◌, ◌≤◌, ◌^◌, List, ℕ, length, ap}
use Rattle.std.specs.Prelude.{None}
use Rattle.pe_view.specs.Faults.{first_standing}
use Rattle.pe_view.specs.View.{bytes_of}
use Rattle.pe_head.specs.HeaderFaults.{head_tests}
use Rattle.pe_lines.proofs.FewBytes.{few_bytes}
use Rattle.pe_lines.proofs.sum_line.SumReportReport.write.Goals as goal

pub check_sum-requires : goal.check_sum-requires
check_sum-requires g c = few_bytes 0 (bytes_of c.new-view.result) c.in-Ok.ensures.0
