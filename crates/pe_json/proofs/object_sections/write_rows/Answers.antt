-- One section more.
use Rattle.std.proofs.Common.{List, ℕ, ◌≡◌, ◌+◌, ◌∙◌, ap, arith, true, subst}
use Rattle.coff_read.specs.FileView.{file_section_view}
use Rattle.coff_read.specs.EitherObject.{form_of, file_of}
use Rattle.coff_read.specs.FormReading.{object_of, section_starts}
use Rattle.pe_text.specs.TextWriter.{Adds}
use Rattle.pe_text.proofs.Adding.{◌then◌}
use Rattle.pe_json.specs.JsonText.{numbered_rows}
use Rattle.pe_json.specs.Listed.{items_text}
use Rattle.pe_json.specs.ObjectLine.{object_section_row, sections_of}
use Rattle.pe_json.proofs.Objects.{adds_none, items_none, left-out}
use Rattle.pe_json.proofs.RowByRow.{row_next, rows_rest, rows_taken, section_at, as_many}
use Rattle.pe_json.proofs.object_sections.write_rows.Goals as goal

pub loop-index-init : goal.loop-index-init
loop-index-init g c = record { adds = rw items_none (adds_none c.requires) }

pub loop-index-preserved : goal.loop-index-preserved
loop-index-preserved g c =
    let big = form_of c.args.object.now in
    let file = file_of c.args.object.now in
    let row = object_section_row (object_of big file).machine in
    let i = c.loop-index.index in
    let size = as_many big row file (section_starts big file) 1 in
    let count = c.section_count-index-end.ensures in
    let under = c.loop-index-test.true in
    let header = rw c.unwrap-header.ensures at c.section_header.ensures in
    let section = rw c.unwrap-section.ensures at c.section.ensures in
    let at : 1 + i ≡ i + 1 = omega arith in
    let got = section_at big row file (section_starts big file) 1 i c.unwrap-header.result (file_section_view c.unwrap-section.result) _ header section ∙ ap (λ (n : ℕ). row n (c.unwrap-header.result, file_section_view c.unwrap-section.result)) at in
    let added = rw c.machine.ensures at c.write_next_section.ensures in
    record { adds = rw (row_next (numbered_rows row 1 (sections_of big file)) i _ (omega (arith, under, count, size)) got) (c.loop-index.invariant.adds then added) }

pub returns : goal.returns
returns g c =
    let big = form_of c.args.object.now in
    let file = file_of c.args.object.now in
    let row = object_section_row (object_of big file).machine in
    let size = as_many big row file (section_starts big file) 1 in
    let count = c.section_count-index-end.ensures in
    let past = c.loop-index-test.false in
    subst (λ (xs : List (List ℕ)). Adds g.W.Sink.taken g.W.Sink.failures c.args.text.now c.loop-index.text (items_text true xs)) (rows_taken (numbered_rows row 1 (sections_of big file)) c.loop-index.index (omega (arith, past, count, size))) c.loop-index.invariant.adds

pub returns-then-has_failed : goal.returns-then-has_failed
returns-then-has_failed g c =
    let big = form_of c.args.object.now in
    let file = file_of c.args.object.now in
    left-out _ _ _ _ _ c.loop-index.invariant.adds (c.has_failed.ensures.ends c.if-has_failed.true) (rows_rest (numbered_rows (object_section_row (object_of big file).machine) 1 (sections_of big file)) c.loop-index.index)
