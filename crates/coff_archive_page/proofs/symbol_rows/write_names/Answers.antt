use Rattle.pe_page.proofs.Adding.{◌and◌}
use Rattle.coff_archive_page.proofs.symbol_rows.write_names.Goals as goal

pub loop-symbol-preserved : goal.loop-symbol-preserved
loop-symbol-preserved g c = record { ready = c.text-in-loop-symbol.ensures.ready; adds = c.loop-symbol.invariant.adds and (_, c.text.ensures) and (_, c.write_name.ensures) and (_, c.text-in-loop-symbol.ensures) }
