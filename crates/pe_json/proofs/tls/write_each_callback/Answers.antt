-- One callback more.
use Rattle.std.proofs.Common.{List, ℕ, map, arith, true, subst}
use Rattle.std.proofs.lemmas.List.{length-map}
use Rattle.pe_records.specs.CallbackView.{callback_table}
use Rattle.pe_records.specs.Callbacks.{addresses}
use Rattle.pe_text.specs.TextWriter.{Adds}
use Rattle.pe_text.proofs.Adding.{◌then◌}
use Rattle.pe_json.specs.JsonText.{wide_string}
use Rattle.pe_json.specs.Listed.{items_text}
use Rattle.pe_json.proofs.Objects.{adds_none, items_none, left-out}
use Rattle.pe_json.proofs.RowByRow.{row_next, rows_rest, rows_taken, mapped_at}
use Rattle.pe_json.proofs.tls.write_each_callback.Goals as goal

pub loop-index-init : goal.loop-index-init
loop-index-init g c = record { adds = rw items_none (adds_none c.requires) }

pub loop-index-preserved : goal.loop-index-preserved
loop-index-preserved g c =
    let callbacks = addresses (callback_table c.args.callbacks.now) in
    let rows = map wide_string callbacks in
    let size = length-map callbacks wide_string in
    let len = c.len-index-end.ensures in
    let under = c.loop-index-test.true in
    let got = mapped_at wide_string callbacks c.loop-index.index c.unwrap-address.result _ (rw c.unwrap-address.ensures at c.get.ensures) in
    record { adds = rw (row_next rows c.loop-index.index _ (omega (arith, under, len, size)) got) (c.loop-index.invariant.adds then c.write_next_callback.ensures) }

pub returns : goal.returns
returns g c =
    let callbacks = addresses (callback_table c.args.callbacks.now) in
    let rows = map wide_string callbacks in
    let size = length-map callbacks wide_string in
    let len = c.len-index-end.ensures in
    let past = c.loop-index-test.false in
    subst (λ (xs : List (List ℕ)). Adds g.W.Sink.taken g.W.Sink.failures c.args.text.now c.loop-index.text (items_text true xs)) (rows_taken rows c.loop-index.index (omega (arith, past, len, size))) c.loop-index.invariant.adds

pub returns-then-has_failed : goal.returns-then-has_failed
returns-then-has_failed g c =
    left-out _ _ _ _ _ c.loop-index.invariant.adds (c.has_failed.ensures.ends c.if-has_failed.true) (rows_rest (map wide_string (addresses (callback_table c.args.callbacks.now))) c.loop-index.index)
