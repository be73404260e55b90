use Rattle.pe_page.proofs.Adding.{◌and◌}
use Rattle.pe_resource_pages.proofs.version_rows.write_string.Goals as goal

pub returns : goal.returns
returns g c = (_, c.text.ensures) and c.write_short_text.ensures and (_, c.text-2.ensures) and c.write_short_text-2.ensures and (_, c.text-3.ensures) and c.write_wide_text.ensures and (_, c.text-4.ensures)
