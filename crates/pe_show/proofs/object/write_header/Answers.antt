use Rattle.pe_page.proofs.Adding.{◌and◌}
use Rattle.pe_show.proofs.object.write_header.Goals as goal

pub returns : goal.returns
returns g c = c.write_stamp.ensures and c.write_flag_row.ensures and c.write_cells.ensures
