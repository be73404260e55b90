use Rattle.pe_page.proofs.Adding.{◌and◌}
use Rattle.pe_show.proofs.object.write_object.Goals as goal

pub returns : goal.returns
returns g c = c.write_title.ensures and c.write_header.ensures and c.write_sections.ensures and c.write_relocations.ensures and c.write_symbols.ensures
