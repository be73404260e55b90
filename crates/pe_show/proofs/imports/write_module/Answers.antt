use Rattle.pe_page.proofs.Adding.{◌and◌}
use Rattle.pe_show.proofs.imports.write_module.Goals as goal

pub loop-import-preserved : goal.loop-import-preserved
loop-import-preserved g c = record { ready = c.write_import.ensures.ready; adds = c.loop-import.invariant.adds and (_, c.write_import.ensures) }
