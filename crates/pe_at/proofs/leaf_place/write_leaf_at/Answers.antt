use Rattle.pe_page.proofs.Adding.{◌and◌}
use Rattle.pe_at.proofs.leaf_place.write_leaf_at.Goals as goal

pub returns : goal.returns
returns g c = (_, c.text.ensures) and c.write_leaf_path.ensures and (_, c.write_parts.ensures)
