use Rattle.pe_head.specs.Names.{subsystem_names}
use Rattle.pe_head.proofs.names.subsystem_name.Goals as goal

pub returns : goal.returns
unfolding subsystem_names
returns c = rw c.from.ensures at c.name_among.ensures
