-- An image has at most 2^31 bytes.
use Rattle.std.proofs.Common.{length, arith, inl, inr}
use Rattle.std.proofs.lemmas.Bool.{cases_lt}
use Rattle.pe_layout.specs.Layout.{size_small}
use Rattle.pe_resources.proofs.section.Section.at.Goals as goal

pub overflow_cast-result : goal.overflow_cast-result
overflow_cast-result c =
    let small = size_small c.args.layout.now in
    elim (cases_lt 0 (length c.raw_bytes-bytes.result.now)) [
      | inl some ↦ (let inside = c.raw_bytes-bytes.ensures.inside some in omega (arith, small, inside))
      | inr none ↦ omega (arith, none)
    ]
