use Rattle.pe_page.proofs.Adding.{◌and◌}
use Rattle.pe_show.proofs.exports.write_exports.Goals as goal

pub loop-ordinal-preserved : goal.loop-ordinal-preserved
loop-ordinal-preserved g c = record { ready = c.write_names.ensures.1.ready; adds = c.loop-ordinal.invariant.adds and (_, c.write_target.ensures) and c.write_names.ensures }
