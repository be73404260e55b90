use Rattle.pe_page.proofs.Outcomes.{page_follows, place_follows}
use Rattle.pe_page.proofs.laws.outcomes_agree.Goals as goal

pub returns : goal.returns
returns c = record { page = page_follows c.faults_agree.ensures; place = place_follows c.faults_agree.ensures }
