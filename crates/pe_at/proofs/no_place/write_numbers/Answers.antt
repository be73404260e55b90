use Rattle.pe_page.proofs.Adding.{◌and◌}
use Rattle.pe_at.proofs.no_place.write_numbers.Goals as goal

pub loop-index-preserved : goal.loop-index-preserved
loop-index-preserved g c = record { ready = c.write_parts.ensures.ready; adds = c.loop-index.invariant.adds and (_, c.write_parts.ensures) }
