use Rattle.pe_page.proofs.Adding.{◌and◌}
use Rattle.pe_resource_pages.proofs.leaf_rows.write_leaf.Goals as goal

pub returns : goal.returns
returns g c = c.write_other_type.ensures and c.write_leaf_row.ensures
