-- One relocation more.
use Rattle.std.proofs.Common.{List, ◌≡◌, ◌∙◌, ◌+◌, ◌*◌, ℕ, ap, sym, subst, arith}
use Rattle.std.specs.Prelude.{flat_map}
use Rattle.std.specs.List.{range_with_len}
use Rattle.std.proofs.lemmas.List.Folds.{flat_map-map}
use Rattle.std.proofs.lemmas.List.FromFn.{length-map-range_with_len}
use Rattle.pe_view.specs.View.{bytes_of}
use Rattle.coff_read.specs.Reading.{relocation_at}
use Rattle.coff_read.specs.declared.relocation.Relocation.{Relocation}
use Rattle.pe_text.specs.TextWriter.{Adds}
use Rattle.pe_text.proofs.Adding.{◌then◌}
use Rattle.pe_text.proofs.Numbering.{line_more, lines_left}
use Rattle.coff_lines.specs.ObjectLines.{relocation_line}
use Rattle.coff_lines.proofs.ObjectLines.{item_is, left-out}
use Rattle.coff_lines.proofs.object_lines.write_relocations.Goals as goal

pub loop-index-preserved : goal.loop-index-preserved
loop-index-preserved g c =
    let r = c.args.relocations in
    let item : ℕ → Relocation = λ (k : ℕ). relocation_at (bytes_of r.view) (r.start + 10 * k) in
    let len = c.len-index-end.ensures.value ∙ length-map-range_with_len item 0 r.count in
    let under = c.loop-index-test.true in
    let told = item_is item r.count c.loop-index.index c.unwrap-relocation.result (omega (arith, under, len)) (rw c.unwrap-relocation.ensures at c.get.ensures) in
    record { adds = rw line_more (c.loop-index.invariant.adds then (rw told at c.write_relocation.ensures)) }

pub returns : goal.returns
returns g c =
    let r = c.args.relocations in
    let item : ℕ → Relocation = λ (k : ℕ). relocation_at (bytes_of r.view) (r.start + 10 * k) in
    let len = c.len-index-end.ensures.value ∙ length-map-range_with_len item 0 r.count in
    let past = c.loop-index-test.false in
    let within = c.loop-index.auto.index-end in
    let end : c.loop-index.index ≡ r.count = omega (arith, past, within, len) in
    subst (Adds g.W.Sink.taken g.W.Sink.failures c.args.text.now c.loop-index.text)
    (ap (λ (n : ℕ). flat_map (λ (k : ℕ). relocation_line c.args.machine (item k)) (range_with_len 0 n)) end ∙ sym (flat_map-map (relocation_line c.args.machine) item (range_with_len 0 r.count)))
    c.loop-index.invariant.adds

pub returns-then-has_failed : goal.returns-then-has_failed
returns-then-has_failed g c =
    let r = c.args.relocations in
    let item : ℕ → Relocation = λ (k : ℕ). relocation_at (bytes_of r.view) (r.start + 10 * k) in
    let line : ℕ → List ℕ = λ (k : ℕ). relocation_line c.args.machine (item k) in
    let len = c.len-index-end.ensures.value ∙ length-map-range_with_len item 0 r.count in
    let under = c.loop-index-test.true in
    left-out _ _ _ _ _ c.loop-index.invariant.adds (c.has_failed.ensures.ends c.if-has_failed.true)
    (sym (lines_left line c.loop-index.index r.count (omega (arith, under, len))) ∙ sym (flat_map-map (relocation_line c.args.machine) item (range_with_len 0 r.count)))
