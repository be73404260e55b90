use Rattle.pe_page.proofs.Adding.{◌and◌}
use Rattle.pe_record_pages.proofs.certificates.write_entry.Goals as goal

pub returns : goal.returns
returns g c = (_, c.text.ensures) and c.write_type.ensures and c.write_cells.ensures
