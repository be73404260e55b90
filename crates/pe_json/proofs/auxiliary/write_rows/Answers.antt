-- One record more.
use Rattle.std.proofs.Common.{List, ℕ, ◌+◌, ◌∙◌, map, ap, sym, arith, true, subst, zero-add}
use Rattle.std.specs.List.{range_with_len}
use Rattle.std.proofs.lemmas.List.FromFn.{get_or-map-range_with_len, length-map-range_with_len}
use Rattle.coff_read.specs.BigAuxiliary.{big_aux_view}
use Rattle.coff_read.specs.BigView.{big_symbol_view}
use Rattle.coff_read.specs.FormRecords.{aux_records}
use Rattle.pe_text.specs.TextWriter.{Adds}
use Rattle.pe_text.proofs.Adding.{◌then◌}
use Rattle.pe_json.specs.Listed.{items_text}
use Rattle.pe_json.specs.ObjectLine.{aux_row, aux_row_at}
use Rattle.pe_json.proofs.Objects.{adds_none, items_none, left-out}
use Rattle.pe_json.proofs.RowByRow.{row_next, rows_rest, rows_taken, record_told}
use Rattle.pe_json.proofs.auxiliary.write_rows.Goals as goal

pub loop-k-init : goal.loop-k-init
loop-k-init g c = record { adds = rw items_none (adds_none c.requires.ready) }

pub loop-k-preserved : goal.loop-k-preserved
loop-k-preserved g c =
    let big = c.args.is_big in
    let s = big_symbol_view c.args.symbol.now in
    let row = aux_row_at big c.args.index s in
    let n = aux_records big s in
    let k = c.loop-k.k in
    let size = length-map-range_with_len row 0 n in
    let count = c.aux_count-k-end.ensures in
    let under = c.loop-k-test.true in
    let told = record_told big s k (big_aux_view c.unwrap-aux.result) (omega (arith, under, count)) (rw c.unwrap-aux.ensures at c.aux_record.ensures) in
    let got = get_or-map-range_with_len row 0 n k k (aux_row (c.args.index + k) (big_aux_view c.unwrap-aux.result)) (omega (arith, under, count)) (zero-add k) ∙ ap (aux_row (c.args.index + k)) (sym told) in
    record { adds = rw (row_next (map row (range_with_len 0 n)) k _ (omega (arith, under, count, size)) got) (c.loop-k.invariant.adds then c.write_next.ensures) }

pub returns : goal.returns
returns g c =
    let big = c.args.is_big in
    let s = big_symbol_view c.args.symbol.now in
    let row = aux_row_at big c.args.index s in
    let n = aux_records big s in
    let size = length-map-range_with_len row 0 n in
    let count = c.aux_count-k-end.ensures in
    let past = c.loop-k-test.false in
    subst (λ (xs : List (List ℕ)). Adds g.W.Sink.taken g.W.Sink.failures c.args.text.now c.loop-k.text (items_text true xs)) (rows_taken (map row (range_with_len 0 n)) c.loop-k.k (omega (arith, past, count, size))) c.loop-k.invariant.adds

pub returns-then-has_failed : goal.returns-then-has_failed
returns-then-has_failed g c =
    let big = c.args.is_big in
    let s = big_symbol_view c.args.symbol.now in
    left-out _ _ _ _ _ c.loop-k.invariant.adds (c.has_failed.ensures.ends c.if-has_failed.true) (rows_rest (map (aux_row_at big c.args.index s) (range_with_len 0 (aux_records big s))) c.loop-k.k)
