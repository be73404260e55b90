use Rattle.pe_page.proofs.Adding.{◌and◌}
use Rattle.pe_resource_pages.proofs.manifest_rows.write_manifest.Goals as goal

pub returns : goal.returns
returns g c = c.write_plain_heading.ensures and c.write_lines.ensures
