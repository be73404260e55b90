-- One more number.
use Rattle.std.proofs.Common.{◌∙◌, arith}
use Rattle.pe_numbers.specs.declared.number.Number.TheVariants.{U8}
use Rattle.pe_numbers.proofs.Writing.{fits_next, left_next, written_next}
use Rattle.pe_numbers.proofs.number.write_numbers.Goals as goal

pub loop-number-preserved : goal.loop-number-preserved
loop-number-preserved c =
    let ns = c.args.numbers.now in
    let i = c.loop-number.number-index in
    let under = c.loop-number-test.true in
    let left = left_next ns i (U8 0) under in
    let before = c.loop-number.invariant.left in
    let width = c.write_number-start.ensures.width in
    record {
      told = λ rest. c.loop-number.invariant.told (fits_next ns i (U8 0) under c.write_number-start.ensures.fits rest);
      left = omega (arith, left, before, width);
      bytes = written_next ns i (U8 0) c.loop-number.room c.write_number-start.new.room _ c.loop-number.start c.write_number-start.result under (omega (arith, before)) width c.write_number-start.ensures.bytes ∙ c.loop-number.invariant.bytes;
    }
