use Rattle.pe_tables.proofs.FixupPlaces.{named, contained}
use Rattle.pe_tables.proofs.laws.fixups_are_named.Goals as goal

pub returns : goal.returns
returns c = λ i d f. (named i d f, contained i d f)
