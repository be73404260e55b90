use Rattle.pe_page.proofs.Adding.{◌and◌}
use Rattle.pe_record_pages.proofs.load_configuration.write_load_configuration.Goals as goal

pub loop-index-preserved : goal.loop-index-preserved
loop-index-preserved g c = record { ready = c.write_field.ensures.1.ready; adds = c.loop-index.invariant.adds and c.write_field.ensures }
