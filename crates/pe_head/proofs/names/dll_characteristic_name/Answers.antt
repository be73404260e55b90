use Rattle.pe_head.specs.Names.{dll_characteristic_names}
use Rattle.pe_head.proofs.names.dll_characteristic_name.Goals as goal

pub returns : goal.returns
unfolding dll_characteristic_names
returns c = rw c.from.ensures at c.name_among.ensures
