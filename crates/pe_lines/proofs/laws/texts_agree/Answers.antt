use Rattle.pe_lines.proofs.Following.{check_follows, dump_follows}
use Rattle.pe_lines.proofs.laws.texts_agree.Goals as goal

pub returns : goal.returns
returns c = record { check = check_follows c.faults_agree.ensures; dump = dump_follows c.faults_agree.ensures }
