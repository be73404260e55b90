use Rattle.pe_set.proofs.Staying.{accepted_at}
use Rattle.pe_set.proofs.laws.accepted_where_placed.Goals as goal

pub returns : goal.returns
returns c = accepted_at
