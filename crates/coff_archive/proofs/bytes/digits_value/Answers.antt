-- No sum passes the number of all digits.
use Rattle.std.proofs.Common.{arith}
use Rattle.coff_archive.proofs.Digits.{next_digit}
use Rattle.coff_archive.proofs.bytes.digits_value.Goals as goal

pub overflow_mul-value : goal.overflow_mul-value
overflow_mul-value c =
    let le = next_digit c.args.radix c.loop-digit.value c.loop-digit.digit-index _ c.args.digits.now c.requires.radix c.loop-digit-test.true c.loop-digit.invariant.value in
    let small = c.requires.small in
    omega arith

pub overflow_add-value : goal.overflow_add-value
overflow_add-value c =
    let le = next_digit c.args.radix c.loop-digit.value c.loop-digit.digit-index _ c.args.digits.now c.requires.radix c.loop-digit-test.true c.loop-digit.invariant.value in
    let small = c.requires.small in
    omega arith
