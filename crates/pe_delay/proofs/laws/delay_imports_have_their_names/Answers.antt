use Rattle.pe_delay.proofs.Naming.{are_named}
use Rattle.pe_delay.proofs.laws.delay_imports_have_their_names.Goals as goal

pub returns : goal.returns
returns c = are_named
