-- Seven digits at most.
use Rattle.std.proofs.Common.{◌∙◌, sym, arith}
use Rattle.coff_read.proofs.Digits.{seven_digits}
use Rattle.coff_read.proofs.names.number_in.Goals as goal

pub decimal_value-requires-clause-small : goal.decimal_value-requires-clause-small
decimal_value-requires-clause-small c =
    let shorter = c.up_to_zero-digits.ensures.shorter in
    seven_digits c.up_to_zero-digits.result.now (omega arith) (sym c.all_digits.ensures ∙ c.if-not-all_digits.false)
