use Rattle.pe_tables.proofs.Decimal.{no_ordinal}
use Rattle.std.proofs.Common.{sym, arith}
use Rattle.pe_tables.proofs.forwarder.ordinal_of.Goals as goal

pub returns-then-ordinal-from : goal.returns-then-ordinal-from
returns-then-ordinal-from c = sym (no_ordinal c.args.digits.now c.loop-digit.digit-index c.loop-digit.ordinal c.loop-digit-test.true c.loop-digit.invariant.value (omega arith))
