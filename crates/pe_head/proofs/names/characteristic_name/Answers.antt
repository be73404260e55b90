use Rattle.pe_head.specs.Names.{characteristic_names}
use Rattle.pe_head.proofs.names.characteristic_name.Goals as goal

pub returns : goal.returns
unfolding characteristic_names
returns c = rw c.from.ensures at c.name_among.ensures
