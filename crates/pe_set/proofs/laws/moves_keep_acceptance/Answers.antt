use Rattle.pe_set.proofs.Moving.{accepted_moved}
use Rattle.pe_set.proofs.laws.moves_keep_acceptance.Goals as goal

pub returns : goal.returns
returns c = accepted_moved
