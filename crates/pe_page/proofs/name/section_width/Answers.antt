use Rattle.std.proofs.Common.{arith, length-take}
use Rattle.pe_page.specs.Name.{section_columns}
use Rattle.pe_page.proofs.name.section_width.Goals as goal

pub whole_width-requires : goal.whole_width-requires
whole_width-requires c = rw c.cut.ensures (omega (arith, length-take 40 c.args.name.now))

pub returns-clause-value : goal.returns-clause-value
unfolding section_columns
returns-clause-value c = rw (← c.cut.ensures, ← c.cut_mark.ensures) (omega (arith, c.whole_width.ensures.value))
