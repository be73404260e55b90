use Rattle.pe_page.proofs.Adding.{◌and◌}
use Rattle.pe_at.proofs.mapped_place.write_addresses.Goals as goal

pub loop-address-preserved : goal.loop-address-preserved
loop-address-preserved g c = record { ready = c.write_address.ensures.1.ready; adds = c.loop-address.invariant.adds and c.write_address.ensures }
