use Rattle.pe_page.proofs.Adding.{◌and◌}
use Rattle.pe_record_pages.proofs.debug_data.write_hash.Goals as goal

pub returns-in-Some : goal.returns-in-Some
returns-in-Some g c = (_, c.text.ensures) and c.write_bytes.ensures
