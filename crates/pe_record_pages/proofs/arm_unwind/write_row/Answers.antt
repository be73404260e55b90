use Rattle.pe_page.proofs.Adding.{◌and◌}
use Rattle.pe_record_pages.proofs.arm_unwind.write_row.Goals as goal

pub loop-index-preserved : goal.loop-index-preserved
loop-index-preserved g c = record { ready = c.write_code.ensures.1.ready; adds = c.loop-index.invariant.adds and c.write_code.ensures }

pub returns : goal.returns
returns g c = c.loop-index.invariant.adds and (_, c.text-2.ensures)
