-- Each row is a section header of the file.
use Rattle.std.proofs.Common.{◌≡◌, ◌∙◌, ◌+◌, ◌*◌, ◌/◌, ℕ, List, length, get_or, ap, ap₂, arith}
use Rattle.std.specs.Simd.{first_chunks}
use Rattle.pe_view.specs.Number.{part}
use Rattle.pe_view.specs.View.{bytes_of}
use Rattle.pe_head.specs.Head.{coff_field, table_start}
use Rattle.pe_head.proofs.Rows.{row_in, header_in, part_len}
use Rattle.pe_head.proofs.fields.Fields.rows.Goals as goal

pub returns-clause-sections : goal.returns-clause-sections
returns-clause-sections c = λ k d lt.
    let file = bytes_of c.args.self.now.view in
    let n : ℕ = coff_field file 2 2 in
    let start : c.optional-start.result ≡ table_start file = omega (arith, c.optional-start.ensures, c.from.ensures, c.coff_u16.ensures) in
    let size : 40 * c.from-size.result ≡ 40 * n = omega (arith, c.from-size.ensures, c.coff_u16-2.ensures) in
    let bytes : c.unwrap.result.now ≡ part file c.optional-start.result (40 * c.from-size.result) = rw c.unwrap.ensures at c.slice.ensures.value in
    let slice : c.unwrap.result.now ≡ part file (table_start file) (40 * n) = bytes ∙ ap₂ (λ (a b : ℕ). part file a b) start size in
    let held = c.requires.held in
    let len : length c.unwrap.result.now ≡ 40 * n = ap (λ (xs : List ℕ). length xs) slice ∙ part_len file (table_start file) (40 * n) (omega (arith, held)) in
    let many : length c.unwrap.result.now / 40 ≡ n = omega (arith, len) in
    header_in file (table_start file + 40 * k) _
    (ap (λ (rows : List (List ℕ)). get_or rows k d) (c.as_chunks.ensures.front ∙ ap (λ (m : ℕ). first_chunks 40 m c.unwrap.result.now) many ∙ ap (first_chunks 40 n) slice)
    ∙ row_in file (table_start file) n k d (omega (arith, lt, c.as_chunks.ensures.front_len, many)))
