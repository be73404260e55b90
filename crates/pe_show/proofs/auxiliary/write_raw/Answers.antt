use Rattle.pe_page.proofs.Adding.{◌and◌}
use Rattle.pe_show.proofs.auxiliary.write_raw.Goals as goal

pub loop-byte-preserved : goal.loop-byte-preserved
loop-byte-preserved g c = record { ready = c.write_cells.ensures.1.ready; adds = c.loop-byte.invariant.adds and c.write_cells.ensures }
