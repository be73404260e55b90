use Rattle.pe_page.proofs.Adding.{none, ◌and◌}
use Rattle.pe_record_pages.proofs.tls.write_callbacks.Goals as goal

pub loop-index-init : goal.loop-index-init
loop-index-init g c = record { ready = c.requires; adds = none g.W.Sink.taken g.W.Sink.failures _ c.requires }

pub loop-index-preserved : goal.loop-index-preserved
loop-index-preserved g c = record { ready = c.write_callback.ensures.1.ready; adds = c.loop-index.invariant.adds and c.write_callback.ensures }
