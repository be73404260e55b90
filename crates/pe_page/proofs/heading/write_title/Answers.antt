use Rattle.pe_page.proofs.Adding.{◌and◌}
use Rattle.pe_page.proofs.heading.write_title.Goals as goal

pub returns : goal.returns
returns g c = c.write_cells.ensures and (_, c.write_parts.ensures) and c.write_cells-2.ensures
