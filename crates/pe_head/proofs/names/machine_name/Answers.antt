use Rattle.pe_head.specs.Names.{machine_names}
use Rattle.pe_head.proofs.names.machine_name.Goals as goal

pub returns : goal.returns
unfolding machine_names
returns c = rw c.from.ensures at c.name_among.ensures
