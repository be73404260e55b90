use Rattle.pe_page.proofs.Adding.{◌and◌}
use Rattle.pe_at.proofs.mapped_place.write_bytes.Goals as goal

pub loop-byte-preserved : goal.loop-byte-preserved
loop-byte-preserved g c = record { ready = c.write_parts.ensures.ready; adds = c.loop-byte.invariant.adds and (_, c.write_parts.ensures) }

pub returns : goal.returns
returns g c = c.loop-byte.invariant.adds and (_, c.text-2.ensures)
