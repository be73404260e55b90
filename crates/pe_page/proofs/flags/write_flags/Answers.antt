use Rattle.pe_page.proofs.Adding.{◌and◌}
use Rattle.pe_page.proofs.flags.write_flags.Goals as goal

pub loop-bit-preserved : goal.loop-bit-preserved
loop-bit-preserved g c = record { ready = c.write_flag-column.ensures.1.ready; adds = c.loop-bit.invariant.adds and c.write_flag-column.ensures }

pub returns : goal.returns
returns g c = c.loop-bit.invariant.adds and c.write_unnamed.ensures
