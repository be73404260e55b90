use Rattle.pe_page.proofs.Adding.{◌and◌}
use Rattle.pe_at.proofs.at_object.write_spots.Goals as goal

pub loop-spot-preserved : goal.loop-spot-preserved
loop-spot-preserved g c = record { ready = c.write_spot.ensures.1.ready; adds = c.loop-spot.invariant.adds and c.write_spot.ensures }
