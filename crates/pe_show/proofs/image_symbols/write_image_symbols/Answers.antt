use Rattle.pe_page.proofs.Adding.{◌and◌}
use Rattle.pe_show.proofs.image_symbols.write_image_symbols.Goals as goal

pub returns : goal.returns
returns g c = c.write_heading.ensures and c.write_rows.ensures
