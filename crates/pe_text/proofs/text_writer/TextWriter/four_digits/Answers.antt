use Rattle.std.proofs.Common.{arith}
use Rattle.pe_text.proofs.ShortNumbers.{three_digits, four_digits}
use Rattle.pe_text.proofs.text_writer.TextWriter.four_digits.Goals as goal

pub returns-then-number-lt1000 : goal.returns-then-number-lt1000
returns-then-number-lt1000 g c =
    let past = c.if-number-lt100.false in
    rw (three_digits c.args.number (omega (arith, past)) c.if-number-lt1000.true, ← c.digit-ones.ensures, ← c.digit-tens.ensures, ← c.digit-hundreds.ensures) c.text.ensures

pub returns-else-number-lt1000 : goal.returns-else-number-lt1000
returns-else-number-lt1000 g c =
    let past = c.if-number-lt1000.false in
    rw (four_digits c.args.number (omega (arith, past)) c.requires.small, ← c.digit-ones.ensures, ← c.digit-tens.ensures, ← c.digit-hundreds.ensures, ← c.digit.ensures) c.text-else-number-lt1000.ensures
