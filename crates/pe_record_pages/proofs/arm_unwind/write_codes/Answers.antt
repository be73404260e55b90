use Rattle.pe_page.proofs.Adding.{◌and◌}
use Rattle.pe_record_pages.proofs.arm_unwind.write_codes.Goals as goal

pub loop-row-preserved : goal.loop-row-preserved
loop-row-preserved g c = record { ready = c.write_row.ensures.1.ready; adds = c.loop-row.invariant.adds and c.write_row.ensures }
