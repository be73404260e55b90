use Rattle.petool_page.proofs.Numbered.{keeps_number, puts_bytes}
use Rattle.petool_page.proofs.engines.report_into.Goals as goal

pub returns-then-unbound-clause-same : goal.returns-then-unbound-clause-same
returns-then-unbound-clause-same c = keeps_number _ _ _ _ _ _ _ _ c.map_report_unbound.ensures.puts

pub returns-then-unbound-clause-puts : goal.returns-then-unbound-clause-puts
returns-then-unbound-clause-puts c = rw c.if-unbound.true (puts_bytes _ _ _ _ _ _ _ _ c.map_report_unbound.ensures.puts)

pub returns-else-unbound-clause-same : goal.returns-else-unbound-clause-same
returns-else-unbound-clause-same c = keeps_number _ _ _ _ _ _ _ _ c.map_report.ensures.puts

pub returns-else-unbound-clause-puts : goal.returns-else-unbound-clause-puts
returns-else-unbound-clause-puts c = rw c.if-unbound.false (puts_bytes _ _ _ _ _ _ _ _ c.map_report.ensures.puts)
