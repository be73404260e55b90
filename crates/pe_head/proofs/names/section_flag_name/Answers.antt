use Rattle.pe_head.specs.Names.{section_flag_names}
use Rattle.pe_head.proofs.names.section_flag_name.Goals as goal

pub returns : goal.returns
unfolding section_flag_names
returns c = c.name_among.ensures
