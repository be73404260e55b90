use Rattle.pe_page.proofs.Adding.{◌and◌}
use Rattle.pe_at.proofs.at_headers.write_site.Goals as goal

pub returns : goal.returns
returns g c = c.write_cells.ensures and c.write_cells-2.ensures and c.write_cells-3.ensures
