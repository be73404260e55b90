use Rattle.pe_page.proofs.Adding.{◌and◌}
use Rattle.pe_record_pages.proofs.unwind.write_chain.Goals as goal

pub loop-link-preserved : goal.loop-link-preserved
loop-link-preserved g c = record { ready = c.write_link.ensures.1.ready; adds = c.loop-link.invariant.adds and c.write_link.ensures }
