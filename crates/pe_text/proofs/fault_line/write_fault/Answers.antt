use Rattle.pe_text.specs.FaultLine.{fault_words}
use Rattle.pe_text.proofs.Adding.{◌then◌}
use Rattle.pe_text.proofs.fault_line.write_fault.Goals as goal

pub returns : goal.returns
unfolding fault_words
returns g c = c.text.ensures then c.decimal.ensures then c.text-2.ensures then c.decimal-2.ensures then c.text-3.ensures then c.write_place.ensures
