use Rattle.pe_page.proofs.Adding.{◌and◌}
use Rattle.pe_at.proofs.at_place.write_line.Goals as goal

pub returns : goal.returns
returns g c = c.write_cells.ensures and c.write_cells-2.ensures and c.write_cells-3.ensures and c.write_cells-4.ensures and c.write_cells-5.ensures and c.write_cells-6.ensures and c.write_cells-7.ensures and c.write_leaf_at.ensures
