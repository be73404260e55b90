use Rattle.pe_page.proofs.Adding.{◌and◌}
use Rattle.pe_resource_pages.proofs.leaf_rows.write_leaf_row.Goals as goal

pub returns : goal.returns
returns g c = (_, c.text.ensures) and c.write_leaf_name.ensures and (_, c.text-2.ensures) and c.write_language.ensures and c.write_cells.ensures and c.write_code_page.ensures and (_, c.text-3.ensures)
