use Rattle.pe_tables.proofs.ImportOrder.{imports-ordered}
use Rattle.pe_tables.proofs.laws.imports_keep_their_order.Goals as goal

pub returns : goal.returns
returns c = imports-ordered
