-- One row more.
use Rattle.std.proofs.Common.{◌<◌, List, ℕ, length, arith, true, subst}
use Rattle.pe_text.specs.TextWriter.{Adds}
use Rattle.pe_text.proofs.Adding.{◌then◌}
use Rattle.pe_json.specs.Listed.{items_text}
use Rattle.pe_json.proofs.Objects.{adds_none, items_none, left-out}
use Rattle.pe_json.proofs.RowByRow.{row_at, row_next, rows_rest, rows_taken}
use Rattle.pe_json.proofs.rows.write_rows.Goals as goal

pub loop-index-init : goal.loop-index-init
loop-index-init g c = record { adds = rw items_none (adds_none c.requires) }

pub loop-index-preserved : goal.loop-index-preserved
loop-index-preserved g c =
    let rows = g.T.Rows.row_texts c.args.rows.now in
    let below : c.loop-index.index < length rows = omega (arith, c.loop-index-test.true, c.count-index-end.ensures) in
    record { adds = rw (row_next rows c.loop-index.index _ below (row_at rows c.loop-index.index _ below)) (c.loop-index.invariant.adds then c.write_next.ensures) }

pub returns : goal.returns
returns g c =
    let rows = g.T.Rows.row_texts c.args.rows.now in
    subst (λ (xs : List (List ℕ)). Adds g.W.Sink.taken g.W.Sink.failures c.args.text.now c.loop-index.text (items_text true xs))
    (rows_taken rows c.loop-index.index (omega (arith, c.loop-index-test.false, c.count-index-end.ensures))) c.loop-index.invariant.adds

pub returns-then-has_failed : goal.returns-then-has_failed
returns-then-has_failed g c =
    left-out _ _ _ _ _ c.loop-index.invariant.adds (c.has_failed.ensures.ends c.if-has_failed.true) (rows_rest (g.T.Rows.row_texts c.args.rows.now) c.loop-index.index)
