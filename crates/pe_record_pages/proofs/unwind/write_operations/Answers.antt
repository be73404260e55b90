use Rattle.pe_page.proofs.Adding.{◌and◌}
use Rattle.pe_record_pages.proofs.unwind.write_operations.Goals as goal

pub loop-read-preserved : goal.loop-read-preserved
loop-read-preserved g c = record { ready = c.write_read.ensures.1.ready; adds = c.loop-read.invariant.adds and c.write_read.ensures }
