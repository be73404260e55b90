use Rattle.pe_page.proofs.Adding.{◌and◌}
use Rattle.pe_page.proofs.cell.write_count.Goals as goal

pub loop-group-preserved : goal.loop-group-preserved
loop-group-preserved g c = record { ready = c.write_parts.ensures.ready; adds = c.loop-group.invariant.adds and (_, c.write_parts.ensures) }
