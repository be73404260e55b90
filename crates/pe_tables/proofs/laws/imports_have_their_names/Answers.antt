use Rattle.pe_tables.proofs.ImportNames.{imports-named}
use Rattle.pe_tables.proofs.laws.imports_have_their_names.Goals as goal

pub returns : goal.returns
returns c = imports-named
