-- The digits of an offset are ten at most.
use Rattle.std.proofs.Common.{◌∙◌, ℕ, List, length, ap, arith}
use Rattle.coff_library.proofs.Fields.{length-digits}
use Rattle.coff_library.proofs.parts.push_offset.Goals as goal

pub overflow_sub-digits : goal.overflow_sub-digits
overflow_sub-digits g c =
    let le = length-digits c.args.offset c.requires in
    let len = ap (λ (bs : List ℕ). length bs) (c.as_bytes-digits.ensures.value ∙ c.format.ensures.text) in
    omega (arith, le, len)
