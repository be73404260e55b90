use Rattle.std.proofs.Common.{arith}
use Rattle.pe_page.proofs.Adding.{◌and◌}
use Rattle.pe_resource_pages.proofs.manifest_rows.write_lines.Goals as goal

pub loop-at-preserved : goal.loop-at-preserved
loop-at-preserved g c = record { within = omega (arith, c.line_len-len.ensures.within); ready = c.write_line.ensures.1.ready; adds = c.loop-at.invariant.adds and c.write_line.ensures }
