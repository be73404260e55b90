use Rattle.pe_page.proofs.Adding.{◌and◌}
use Rattle.pe_resource_pages.proofs.manifest_rows.write_line.Goals as goal

pub returns : goal.returns
returns g c = (_, c.text.ensures) and c.write_safely.ensures and (_, c.text-2.ensures)
