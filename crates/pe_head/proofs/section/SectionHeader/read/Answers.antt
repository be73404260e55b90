-- The row at the offset is a part of the file, so its header is the file's.
use Rattle.std.proofs.Common.{◌≡◌, ◌∙◌, ℕ, List, length, take, drop, ap, arith}
use Rattle.std.proofs.lemmas.Grind.{common_steps}
use Rattle.std.proofs.lemmas.List.{take-take}
use Rattle.pe_view.specs.Number.{part}
use Rattle.pe_view.specs.View.{bytes_of}
use Rattle.pe_head.proofs.Rows.{header_in, part_len}
use Rattle.pe_head.proofs.section.SectionHeader.read.Goals as goal

pub unwrap-row-requires : goal.unwrap-row-requires
unwrap-row-requires c =
    let bytes : c.unwrap.result.now ≡ part (bytes_of c.args.file) c.args.start 40 = rw c.unwrap.ensures at c.slice.ensures.value in
    let len : length c.unwrap.result.now ≡ 40 = ap (λ (xs : List ℕ). length xs) bytes ∙ part_len (bytes_of c.args.file) c.args.start 40 c.requires in
    grind (arith, common_steps)

pub returns : goal.returns
returns c =
    let bytes : c.unwrap.result.now ≡ part (bytes_of c.args.file) c.args.start 40 = rw c.unwrap.ensures at c.slice.ensures.value in
    let chunk = rw c.unwrap-row.ensures at c.first_chunk.ensures.cases in
    c.of_row.ensures ∙ header_in (bytes_of c.args.file) c.args.start c.unwrap-row.result.now (chunk.same ∙ ap (take 40) bytes ∙ take-take 40 40 (drop c.args.start (bytes_of c.args.file)) (omega arith))
