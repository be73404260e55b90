-- One more number.
use Rattle.std.proofs.Common.{◌∙◌, ◌+◌, ◌++◌, ℕ, List, drop, get_or, sym, ap, append_assoc, arith}
use Rattle.std.proofs.lemmas.Result.{err_from_is_err_and}
use Rattle.pe_numbers.specs.declared.number.Number.TheVariants.{U8}
use Rattle.pe_numbers.specs.Numbers.{number_bytes, numbers_bytes}
use Rattle.pe_numbers.proofs.Writing.{bytes_next, fits_next, left_next}
use Rattle.pe_numbers.proofs.number.push_numbers.Goals as goal

pub loop-number-preserved : goal.loop-number-preserved
loop-number-preserved g c =
    let ns = c.args.numbers.now in
    let i = c.loop-number.number-index in
    let under = c.loop-number-test.true in
    let before : List ℕ = c.loop-number.bytes.items in
    let pushed = c.in_ok-push_number.ensures in
    let left = left_next ns i (U8 0) under in
    let counted = c.loop-number.invariant.len in
    let more = pushed.len in
    record {
      told = λ rest. c.loop-number.invariant.told (fits_next ns i (U8 0) under pushed.fits rest);
      bytes =
          ap (λ (bs : List ℕ). bs ++ numbers_bytes (drop (i + 1) ns)) pushed.bytes
          ∙ append_assoc before (number_bytes (get_or ns i (U8 0))) (numbers_bytes (drop (i + 1) ns))
          ∙ ap (λ (bs : List ℕ). before ++ bs) (sym (bytes_next ns i (U8 0) under)) ∙ c.loop-number.invariant.bytes;
      capacity = (let grown = pushed.capacity in let kept = c.loop-number.invariant.capacity in omega arith);
      len = omega (arith, left, counted, more);
    }

pub returns-in_err-push_number-clause-full : goal.returns-in_err-push_number-clause-full
returns-in_err-push_number-clause-full g c =
    let left = left_next c.args.numbers.now c.loop-number.number-index (U8 0) c.loop-number-test.true in
    let counted = c.loop-number.invariant.len in
    let kept = c.loop-number.invariant.capacity in
    let full = c.in_err-push_number.ensures.full in
    let p = err_from_is_err_and c.from_residual.result c.from_residual.ensures.1 in
    rw p.1 (omega (arith, left, counted, kept, full))
