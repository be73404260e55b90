use Rattle.pe_head.specs.Names.{directory_names}
use Rattle.pe_head.proofs.names.directory_name.Goals as goal

pub returns : goal.returns
unfolding directory_names
returns c = c.name_among.ensures
