use Rattle.std.proofs.Common.{arith}
use Rattle.pe_page.proofs.Adding.{◌and◌}
use Rattle.pe_show.proofs.directories.write_runs.Goals as goal

pub loop-place-preserved : goal.loop-place-preserved
loop-place-preserved g c = record {
  within = omega (arith, c.module_len-len.ensures.within);
  ready = c.write_run.ensures.1.ready;
  adds = c.loop-place.invariant.adds and c.write_run.ensures;
}
