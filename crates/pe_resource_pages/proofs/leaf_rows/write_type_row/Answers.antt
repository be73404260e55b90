use Rattle.pe_page.proofs.Adding.{◌and◌}
use Rattle.pe_resource_pages.proofs.leaf_rows.write_type_row.Goals as goal

pub returns : goal.returns
returns g c = (_, c.text.ensures) and c.write_kind.ensures and (_, c.text-2.ensures)
