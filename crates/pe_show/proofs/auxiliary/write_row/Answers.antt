use Rattle.pe_page.proofs.Adding.{◌and◌}
use Rattle.pe_show.proofs.auxiliary.write_row.Goals as goal

pub returns : goal.returns
returns g c = (c.write_cells.ensures and c.write_either_record.ensures) and (_, c.text.ensures)
