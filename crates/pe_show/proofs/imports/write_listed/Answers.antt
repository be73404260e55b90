use Rattle.std.proofs.Common.{arith}
use Rattle.pe_page.proofs.Adding.{◌and◌}
use Rattle.pe_show.proofs.imports.write_listed.Goals as goal

pub loop-at-preserved : goal.loop-at-preserved
loop-at-preserved g c = record {
  within = omega (arith, c.module_len-len.ensures.within);
  ready = c.write_module.ensures.1.ready;
  adds = c.loop-at.invariant.adds and c.write_module.ensures;
}
