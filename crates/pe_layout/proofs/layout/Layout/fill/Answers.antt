-- One more run is written.
use Rattle.std.proofs.Common.{◌≡◌, ◌∙◌, ◌++◌, List, ℕ, ap, length, append-nil, length-take, length-drop, arith, rules}
use Rattle.std.proofs.lemmas.List.{drop_all}
use Rattle.pe_layout.specs.Image.{bytes_at}
use Rattle.pe_layout.specs.Layout.{image_of}
use Rattle.pe_layout.proofs.Runs.{fill_step}
use Rattle.pe_layout.proofs.layout.Layout.fill.Goals as goal

pub loop-done-preserved : goal.loop-done-preserved
unfolding image_of
loop-done-preserved c =
    let same = c.loop-done.auto.buffer in
    let le = c.loop-done.invariant.0 in
    let fits = simp (length-take, length-drop) at c.fill_run-done.ensures.fits in (
      omega arith,
      fill_step (image_of c.args.self.now).byte c.args.rva c.loop-done.done c.fill_run-done.result c.args.buffer.now c.loop-done.buffer c.fill_run-done.new.buffer (omega arith) c.loop-done.invariant.1 c.fill_run-done.ensures.filled,
    )

pub returns-then-rva-size-clause-unchanged : goal.returns-then-rva-size-clause-unchanged
unfolding image_of
returns-then-rva-size-clause-unchanged c = search rules

pub returns-clause-filled : goal.returns-clause-filled
returns-clause-filled c =
    let same = c.loop-done.auto.buffer in
    let le = c.loop-done.invariant.0 in
    let all : c.loop-done.done ≡ length c.args.buffer.now = omega (arith, c.loop-done-test.false) in
    let bytes = bytes_at (image_of c.args.self.now) c.args.rva (length c.args.buffer.now) in
    c.loop-done.invariant.1
    ∙ rw all (ap (λ (xs : List ℕ). bytes ++ xs) (drop_all (length c.args.buffer.now) c.args.buffer.now (omega arith)) ∙ append-nil bytes)
