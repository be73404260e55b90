use Rattle.pe_page.proofs.Adding.{◌and◌}
use Rattle.pe_record_pages.proofs.pdb.write_pdb.Goals as goal

pub returns : goal.returns
returns g c = c.write_cells.ensures and c.write_signature.ensures and c.write_cells-2.ensures and (_, c.write_parts.ensures)
