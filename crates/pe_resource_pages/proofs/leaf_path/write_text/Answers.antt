use Rattle.pe_page.proofs.Adding.{◌and◌}
use Rattle.pe_resource_pages.proofs.leaf_path.write_text.Goals as goal

pub returns : goal.returns
returns g c = c.write_word.ensures and (_, c.text.ensures)
