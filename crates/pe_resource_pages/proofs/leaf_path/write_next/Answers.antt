use Rattle.pe_page.proofs.Adding.{◌and◌}
use Rattle.pe_resource_pages.proofs.leaf_path.write_next.Goals as goal

pub returns-in-Some : goal.returns-in-Some
returns-in-Some g c = (_, c.text.ensures) and c.write_name.ensures
