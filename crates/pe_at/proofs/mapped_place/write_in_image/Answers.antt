use Rattle.pe_page.proofs.Adding.{◌and◌}
use Rattle.pe_at.proofs.mapped_place.write_in_image.Goals as goal

pub returns : goal.returns
returns g c = c.write_cells.ensures and c.write_place.ensures and c.write_cells-2.ensures and c.write_window.ensures
