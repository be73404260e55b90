use Rattle.pe_page.specs.Name.{name_text}
use Rattle.pe_page.proofs.name.write_name.Goals as goal

pub returns : goal.returns
unfolding name_text
returns g c = c.write_cut.ensures
