use Rattle.std.proofs.Common.{◌∙◌, ap}
use Rattle.pe_head.specs.Names.{name_in}
use Rattle.pe_show.specs.Words.{selection_names}
use Rattle.pe_show.proofs.auxiliary.selection_name.Goals as goal

pub returns : goal.returns
unfolding selection_names
returns c = c.name_among.ensures ∙ ap (name_in selection_names) c.from.ensures
