use Rattle.pe_page.proofs.Adding.{◌and◌}
use Rattle.pe_record_pages.proofs.debug_data.write_checksum.Goals as goal

pub returns-in-Some : goal.returns-in-Some
returns-in-Some g c = c.write_cells.ensures and c.write_bytes.ensures
