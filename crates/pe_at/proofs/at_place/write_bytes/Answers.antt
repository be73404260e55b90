use Rattle.pe_page.proofs.Adding.{◌and◌}
use Rattle.pe_at.proofs.at_place.write_bytes.Goals as goal

pub loop-at-preserved : goal.loop-at-preserved
loop-at-preserved g c = record { ready = c.write_parts.ensures.ready; adds = c.loop-at.invariant.adds and (_, c.write_parts.ensures) }

pub returns : goal.returns
returns g c = c.loop-at.invariant.adds and (_, c.text-2.ensures)
