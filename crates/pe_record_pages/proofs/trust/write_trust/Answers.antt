use Rattle.pe_page.proofs.Adding.{◌and◌}
use Rattle.pe_record_pages.proofs.trust.write_trust.Goals as goal

pub returns : goal.returns
returns g c = c.write_plain_heading.ensures and c.write_check_sum.ensures and c.write_certificates.ensures and c.write_overlay.ensures and c.write_rich_header.ensures and c.write_import_hash.ensures
