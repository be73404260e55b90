use Rattle.pe_tables.proofs.Named.{named}
use Rattle.pe_tables.proofs.laws.names_are_there.Goals as goal

pub returns : goal.returns
returns c = named
