use Rattle.pe_page.proofs.Adding.{◌and◌}
use Rattle.pe_record_pages.proofs.trust.write_import_hash.Goals as goal

pub returns-in-Some-import_hash : goal.returns-in-Some-import_hash
returns-in-Some-import_hash g c = (_, c.text.ensures) and c.write_bytes.ensures and (_, c.text-in-Some-import_hash.ensures)
