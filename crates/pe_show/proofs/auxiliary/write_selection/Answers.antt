use Rattle.pe_page.proofs.Adding.{◌and◌}
use Rattle.pe_show.proofs.auxiliary.write_selection.Goals as goal

pub returns-then-selection-eq5 : goal.returns-then-selection-eq5
returns-then-selection-eq5 g c = c.write_cells.ensures and c.write_cells-then-selection-eq5.ensures
