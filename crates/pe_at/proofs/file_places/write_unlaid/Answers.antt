use Rattle.pe_page.proofs.Adding.{◌and◌}
use Rattle.pe_at.proofs.file_places.write_unlaid.Goals as goal

pub returns-in-Some : goal.returns-in-Some
returns-in-Some g c = c.write_cells.ensures and (_, c.text.ensures)
