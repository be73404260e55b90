use Rattle.pe_delay.proofs.Whole.{clear_whole, whole_clear}
use Rattle.pe_delay.proofs.laws.whole_descriptors_have_no_finding.Goals as goal

pub returns : goal.returns
returns c = λ i read d some few. (whole_clear i read d, clear_whole i read d some few)
