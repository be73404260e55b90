-- One record more.
use Rattle.std.proofs.Common.{ℕ, ◌+◌, ◌*◌, List, sym, arith}
use Rattle.pe_view.specs.Number.{part}
use Rattle.coff_read.specs.BigAuxiliary.{big_aux_view}
use Rattle.coff_read.specs.BigView.{big_symbol_view}
use Rattle.coff_read.specs.EitherObject.{form_of}
use Rattle.coff_read.specs.FormAuxiliary.{aux_of}
use Rattle.coff_read.specs.FormRecords.{aux_records}
use Rattle.coff_read.specs.Forms.{symbol_len}
use Rattle.coff_lines.specs.ObjectLines.{aux_line}
use Rattle.pe_text.proofs.Adding.{◌then◌}
use Rattle.pe_text.proofs.Numbering.{line_more, lines_left}
use Rattle.coff_lines.proofs.ObjectLines.{record_told, left-out}
use Rattle.coff_lines.proofs.object_lines.write_aux_records.Goals as goal

pub loop-k-preserved : goal.loop-k-preserved
loop-k-preserved g c =
    let count = c.aux_count-k-end.ensures in
    let under = c.loop-k-test.true in
    let told = record_told (form_of c.args.object.now) (big_symbol_view c.args.symbol.now) c.loop-k.k (big_aux_view c.unwrap-aux.result) (omega (arith, under, count)) (rw c.unwrap-aux.ensures at c.aux_record.ensures) in
    record { adds = rw line_more (c.loop-k.invariant.adds then (rw told at c.write_aux.ensures)) }

pub returns-then-has_failed : goal.returns-then-has_failed
returns-then-has_failed g c =
    let count = c.aux_count-k-end.ensures in
    let under = c.loop-k-test.true in
    let big = form_of c.args.object.now in
    let s = big_symbol_view c.args.symbol.now in
    let line : ℕ → List ℕ = λ (k : ℕ). aux_line (c.args.index + k) (aux_of big s (part s.aux (symbol_len big * k) (symbol_len big))) in
    left-out _ _ _ _ _ c.loop-k.invariant.adds (c.has_failed.ensures.ends c.if-has_failed.true) (sym (lines_left line c.loop-k.k (aux_records big s) (omega (arith, under, count))))
