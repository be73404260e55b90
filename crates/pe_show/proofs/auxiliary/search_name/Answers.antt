use Rattle.pe_show.specs.Words.{search_names}
use Rattle.pe_show.proofs.auxiliary.search_name.Goals as goal

pub returns : goal.returns
unfolding search_names
returns c = c.name_among.ensures
