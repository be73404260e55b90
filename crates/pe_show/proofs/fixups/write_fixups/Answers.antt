use Rattle.std.proofs.Common.{arith}
use Rattle.pe_page.proofs.Adding.{◌and◌}
use Rattle.pe_show.proofs.fixups.write_fixups.Goals as goal

pub loop-at-preserved : goal.loop-at-preserved
loop-at-preserved g c = record {
  within = omega (arith, c.page_len-len.ensures.within);
  ready = c.write_page.ensures.1.ready;
  adds = c.loop-at.invariant.adds and c.write_page.ensures;
}
