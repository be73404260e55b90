use Rattle.pe_page.proofs.Adding.{◌and◌}
use Rattle.pe_record_pages.proofs.certificates.write_certificate.Goals as goal

pub returns-clause-adds : goal.returns-clause-adds
returns-clause-adds g c = c.write_entry.ensures and c.write_signed.ensures.adds and c.write_signers.ensures
