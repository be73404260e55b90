use Rattle.std.proofs.Common.{arith}
use Rattle.pe_page.proofs.Adding.{◌and◌}
use Rattle.coff_archive_page.proofs.symbol_rows.write_symbols.Goals as goal

pub loop-at-preserved : goal.loop-at-preserved
loop-at-preserved g c = record {
  within = omega (arith, c.group_len-len.ensures.within);
  ready = c.write_group.ensures.1.ready;
  adds = c.loop-at.invariant.adds and c.write_group.ensures;
}
