use Rattle.pe_page.proofs.Adding.{◌and◌}
use Rattle.pe_resource_pages.proofs.resource_rows.write_resources.Goals as goal

pub returns : goal.returns
returns g c = c.write_tree.ensures and c.write_version.ensures and c.write_manifest.ensures
