use Rattle.pe_page.proofs.Adding.{◌and◌}
use Rattle.pe_show.proofs.symbols.write_symbols.Goals as goal

pub loop-index-preserved : goal.loop-index-preserved
loop-index-preserved g c = record { ready = c.write_object_records.ensures.1.ready; adds = (c.loop-index.invariant.adds and (_, c.write_symbol.ensures)) and c.write_object_records.ensures }
