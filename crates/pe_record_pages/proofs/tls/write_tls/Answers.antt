use Rattle.pe_page.proofs.Adding.{◌and◌}
use Rattle.pe_record_pages.proofs.tls.write_tls.Goals as goal

pub returns : goal.returns
returns g c = c.write_plain_heading.ensures and c.write_fields.ensures and c.write_callbacks.ensures
