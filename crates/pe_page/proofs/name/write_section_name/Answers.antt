use Rattle.pe_page.specs.Name.{section_text}
use Rattle.pe_page.proofs.name.write_section_name.Goals as goal

pub returns : goal.returns
unfolding section_text
returns g c = c.write_cut.ensures
