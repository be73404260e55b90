use Rattle.pe_page.proofs.Adding.{◌and◌}
use Rattle.pe_resource_pages.proofs.leaf_rows.write_tree.Goals as goal

pub returns : goal.returns
returns g c = c.write_heading.ensures and c.write_leaves.ensures
