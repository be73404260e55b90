use Rattle.pe_text.specs.FaultLine.{fault_line}
use Rattle.pe_text.proofs.Adding.{◌then◌}
use Rattle.pe_text.proofs.fault_line.write_fault_line.Goals as goal

pub returns : goal.returns
unfolding fault_line
returns g c = c.write_fault.ensures then c.text.ensures
