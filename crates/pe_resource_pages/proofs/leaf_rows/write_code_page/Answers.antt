use Rattle.pe_page.proofs.Adding.{◌and◌}
use Rattle.pe_resource_pages.proofs.leaf_rows.write_code_page.Goals as goal

pub returns-then-code_page-ne0 : goal.returns-then-code_page-ne0
returns-then-code_page-ne0 g c = (_, c.text.ensures) and (_, c.decimal.ensures)
