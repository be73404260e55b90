use Rattle.std.proofs.Common.{arith, length-take}
use Rattle.pe_page.proofs.name.module_width.Goals as goal

pub whole_width-requires : goal.whole_width-requires
whole_width-requires c = rw c.cut.ensures (omega (arith, length-take 255 c.args.name.now))
