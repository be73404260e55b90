use Rattle.pe_page.proofs.Adding.{◌and◌}
use Rattle.pe_resource_pages.proofs.identity.write_version_identity.Goals as goal

pub returns : goal.returns
returns g c = c.write_string.ensures and c.write_string-2.ensures and c.write_versions.ensures
