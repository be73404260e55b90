use Rattle.pe_page.proofs.Adding.{◌and◌}
use Rattle.pe_resource_pages.proofs.summary.write_resource_summary.Goals as goal

pub returns-in-Some : goal.returns-in-Some
returns-in-Some g c = c.write_cells.ensures and c.write_version.ensures and c.write_description.ensures
