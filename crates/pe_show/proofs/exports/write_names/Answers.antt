use Rattle.pe_page.proofs.Adding.{◌and◌}
use Rattle.pe_show.proofs.exports.write_names.Goals as goal

pub loop-place-preserved : goal.loop-place-preserved
loop-place-preserved g c = record { ready = c.write_behind_gap.ensures.ready; adds = c.loop-place.invariant.adds and (_, c.write_behind_gap.ensures) }

pub returns : goal.returns
returns g c = c.loop-place.invariant.adds and (_, c.text.ensures)
