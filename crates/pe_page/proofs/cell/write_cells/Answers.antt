use Rattle.pe_page.proofs.Adding.{◌and◌}
use Rattle.pe_page.proofs.cell.write_cells.Goals as goal

pub loop-cell-preserved : goal.loop-cell-preserved
loop-cell-preserved g c = record { ready = c.write_cell.ensures.1.ready; adds = c.loop-cell.invariant.adds and c.write_cell.ensures }
