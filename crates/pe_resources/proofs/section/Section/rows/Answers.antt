-- Each chunk of the entries is one.
use Rattle.std.proofs.Common.{◌≡◌, ◌∙◌, ◌+◌, ◌*◌, ◌/◌, ℕ, List, length, get_or, ap, arith}
use Rattle.std.specs.Simd.{first_chunks}
use Rattle.std.proofs.lemmas.List.FromFn.{length-map-range_with_len}
use Rattle.pe_layout.specs.Layout.{image_of}
use Rattle.pe_resources.proofs.Numbers.{chunk_at, entry_here}
use Rattle.pe_resources.proofs.section.Section.rows.Goals as goal

pub returns-clause-rows : goal.returns-clause-rows
returns-clause-rows c = λ k d lt.
    let s = c.args.self in
    let i = image_of s.layout.now in
    let o : ℕ = c.args.offset in
    let n : ℕ = c.args.count in
    let here = c.bytes.ensures in
    let many : length c.bytes.result.now / 8 ≡ n = omega (arith, ap length here, length-map-range_with_len i.byte (s.start + (o + 16)) (8 * n)) in
    entry_here i s.start o k _
    (ap (λ (rows : List (List ℕ)). get_or rows k d) (c.as_chunks.ensures.front ∙ ap (λ (m : ℕ). first_chunks 8 m c.bytes.result.now) many ∙ ap (first_chunks 8 n) here)
    ∙ chunk_at i.byte (s.start + (o + 16)) (8 * n) n k d (omega arith) lt)

pub returns-clause-len : goal.returns-clause-len
returns-clause-len c =
    let s = c.args.self in
    let i = image_of s.layout.now in
    omega (arith, c.as_chunks.ensures.front_len, ap length c.bytes.ensures, length-map-range_with_len i.byte (s.start + (c.args.offset + 16)) (8 * c.args.count))
