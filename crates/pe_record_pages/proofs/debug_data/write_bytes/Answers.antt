use Rattle.pe_page.proofs.Adding.{◌and◌}
use Rattle.pe_record_pages.proofs.debug_data.write_bytes.Goals as goal

pub loop-byte-preserved : goal.loop-byte-preserved
loop-byte-preserved g c = record { ready = c.write_part.ensures.ready; adds = c.loop-byte.invariant.adds and (_, c.write_part.ensures) }
