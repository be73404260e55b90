use Rattle.pe_page.proofs.Adding.{◌and◌}
use Rattle.pe_resource_pages.proofs.leaf_path.write_leaf_path.Goals as goal

pub returns : goal.returns
returns g c = c.write_first.ensures and c.write_next.ensures and c.write_next-2.ensures
