use Rattle.pe_tables.proofs.NameOrder.{names-ordered}
use Rattle.pe_tables.proofs.laws.names_keep_their_order.Goals as goal

pub returns : goal.returns
returns c = names-ordered
