use Rattle.pe_page.proofs.Adding.{◌and◌}
use Rattle.pe_show.proofs.auxiliary.write_object_records.Goals as goal

pub loop-k-preserved : goal.loop-k-preserved
loop-k-preserved g c = record { ready = c.write_row.ensures.1.ready; adds = c.loop-k.invariant.adds and c.write_row.ensures }
