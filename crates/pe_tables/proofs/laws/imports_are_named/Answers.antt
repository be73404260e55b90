use Rattle.pe_tables.proofs.ImportPlaces.{named, contained}
use Rattle.pe_tables.proofs.laws.imports_are_named.Goals as goal

pub returns : goal.returns
returns c = λ i d import some. (named i d import, contained i d import some)
