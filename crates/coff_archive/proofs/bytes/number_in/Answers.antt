-- Sixteen digits at most.
use Rattle.std.proofs.Common.{◌∙◌, sym, arith}
use Rattle.coff_archive.proofs.Digits.{sixteen_digits}
use Rattle.coff_archive.proofs.bytes.number_in.Goals as goal

pub digits_value-requires-clause-small : goal.digits_value-requires-clause-small
digits_value-requires-clause-small c =
    let shorter = c.up_to_blank-digits.ensures.shorter in
    sixteen_digits c.args.radix c.up_to_blank-digits.result.now c.requires.ten (omega arith) (sym c.all_digits.ensures ∙ c.if-not-all_digits.false)
