use Rattle.pe_page.proofs.Adding.{◌and◌}
use Rattle.pe_record_pages.proofs.certificates.write_signer.Goals as goal

pub returns : goal.returns
returns g c = c.write_cells.ensures and c.write_bytes.ensures and (_, c.text.ensures)
