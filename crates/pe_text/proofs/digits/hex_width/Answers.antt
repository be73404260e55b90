use Rattle.std.proofs.Common.{sym}
use Rattle.pe_text.proofs.Widths.{width_of_bit, width_of_zero}
use Rattle.pe_text.proofs.digits.hex_width.Goals as goal

pub returns-in-Some-clause-value : goal.returns-in-Some-clause-value
returns-in-Some-clause-value c = sym (width_of_bit c.in-Some.bit c.args.number c.in-Some.ensures.bound c.in-Some.ensures.power_le c.in-Some.ensures.next_power_gt)

pub returns-in-None-clause-value : goal.returns-in-None-clause-value
returns-in-None-clause-value c = rw c.in-None.ensures.none (sym width_of_zero)
