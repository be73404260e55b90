-- The digits of a size are ten at most.
use Rattle.std.proofs.Common.{◌∙◌, ℕ, List, length, ap, arith}
use Rattle.coff_library.proofs.Fields.{length-digits}
use Rattle.coff_library.proofs.parts.push_size.Goals as goal

pub push_padded-requires-clause-fits : goal.push_padded-requires-clause-fits
push_padded-requires-clause-fits g c =
    let le = length-digits c.args.size c.requires in
    let len = ap (λ (bs : List ℕ). length bs) (c.as_bytes.ensures.value ∙ c.format.ensures.text) in
    omega (arith, le, len)
