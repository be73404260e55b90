use Rattle.pe_page.proofs.Adding.{◌and◌}
use Rattle.pe_record_pages.proofs.debug.write_debug.Goals as goal

pub loop-index-init : goal.loop-index-init
loop-index-init g c = record { ready = c.text.ensures.ready; adds = c.write_heading.ensures and (_, c.text.ensures) }

pub loop-index-preserved : goal.loop-index-preserved
loop-index-preserved g c = record { ready = c.write_row.ensures.1.ready; adds = c.loop-index.invariant.adds and c.write_row.ensures }
