-- The digits of an offset are seven at most.
use Rattle.std.proofs.Common.{◌∙◌, length, ap, arith, ℕ, List}
use Rattle.std.proofs.lemmas.Fmt.{length-decimal-le, decimal-digits_of}
use Rattle.std.proofs.lemmas.Result.{on_ok_weaker}
use Rattle.coff_object.proofs.Appends.{offset_field}
use Rattle.coff_object.proofs.record_bytes.push_offset.Goals as goal

pub overflow_sub-digits : goal.overflow_sub-digits
overflow_sub-digits g c =
    let le = length-decimal-le 7 c.args.offset (omega arith) (omega arith) (omega arith) in
    let len = ap (λ (bs : List ℕ). length bs) (c.as_bytes-digits.ensures.value ∙ c.format.ensures.text) in
    omega arith

pub returns : goal.returns
returns g c =
    let digits = c.as_bytes-digits.ensures.value ∙ c.format.ensures.text ∙ decimal-digits_of c.args.offset c.requires.some (omega arith) in
    on_ok_weaker c.push_zeros.result (offset_field c.args.offset _ _ _ _ _ digits c.in_ok-push.ensures.items c.in_ok-extend_from_slice.ensures.items) c.push_zeros.ensures
