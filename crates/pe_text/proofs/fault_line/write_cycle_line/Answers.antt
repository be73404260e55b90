use Rattle.pe_text.specs.FaultLine.{cycle_line}
use Rattle.pe_text.proofs.Adding.{◌then◌}
use Rattle.pe_text.proofs.fault_line.write_cycle_line.Goals as goal

pub returns : goal.returns
unfolding cycle_line
returns g c = c.write_fault.ensures then c.text.ensures then c.decimal.ensures then c.text-2.ensures
