use Rattle.pe_page.proofs.Adding.{◌and◌}
use Rattle.pe_resource_pages.proofs.version_rows.write_version.Goals as goal

pub returns : goal.returns
returns g c = c.write_plain_heading.ensures and c.write_fixed.ensures and c.write_strings.ensures
