use Rattle.pe_page.proofs.Adding.{◌and◌}
use Rattle.pe_resource_pages.proofs.version_rows.write_version_row.Goals as goal

pub returns : goal.returns
returns g c = (_, c.text.ensures) and c.write_number.ensures and (_, c.text-2.ensures)
