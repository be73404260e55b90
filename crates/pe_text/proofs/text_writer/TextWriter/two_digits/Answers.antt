use Rattle.std.proofs.Common.{arith}
use Rattle.std.proofs.lemmas.Fmt.{decimal_digit}
use Rattle.pe_text.proofs.ShortNumbers.{two_digits}
use Rattle.pe_text.proofs.text_writer.TextWriter.two_digits.Goals as goal

pub returns-then-number-lt10 : goal.returns-then-number-lt10
returns-then-number-lt10 g c = rw (decimal_digit c.args.number c.if-number-lt10.true, ← c.digit.ensures) c.text.ensures

pub returns-else-number-lt10 : goal.returns-else-number-lt10
returns-else-number-lt10 g c =
    let past = c.if-number-lt10.false in
    rw (two_digits c.args.number (omega (arith, past)) c.requires.small, ← c.digit-else-number-lt10.ensures, ← c.digit-else-number-lt10-2.ensures) c.text-else-number-lt10.ensures
