use Rattle.pe_set.proofs.Bases.{bindings_alike}
use Rattle.pe_set.proofs.laws.tables_decide_bindings.Goals as goal

pub returns : goal.returns
returns c = bindings_alike
