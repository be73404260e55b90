use Rattle.pe_page.proofs.Adding.{◌and◌}
use Rattle.pe_record_pages.proofs.pdb.write_identity.Goals as goal

pub returns : goal.returns
returns g c = c.write_plain_heading.ensures and c.write_version.ensures and c.write_pdb.ensures
