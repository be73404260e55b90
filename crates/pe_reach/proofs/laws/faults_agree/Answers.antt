use Rattle.pe_reach.proofs.Faults.{image_first_agrees}
use Rattle.pe_reach.proofs.laws.faults_agree.Goals as goal

pub returns : goal.returns
returns c = image_first_agrees
