use Rattle.pe_page.proofs.Adding.{◌and◌}
use Rattle.pe_resource_files.proofs.list.write_leaf.Goals as goal

pub returns : goal.returns
returns g c = c.write_leaf_path.ensures and (_, c.write_parts.ensures)
