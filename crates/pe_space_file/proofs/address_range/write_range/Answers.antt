-- Each piece adds the bytes after those so far, or a beginning of them.
use Rattle.std.proofs.Common.{◌∙◌, ℕ, ◌+◌, ◌≤◌, ap, arith}
use Rattle.std.proofs.lemmas.Result.{err_from_is_err_and}
use Rattle.pe_space_file.proofs.Pieces.{begun, more}
use Rattle.pe_space_file.proofs.address_range.write_range.Goals as goal

pub returns-in_err-write_piece : goal.returns-in_err-write_piece
returns-in_err-write_piece g c =
    let p = err_from_is_err_and c.from_residual.result c.from_residual.ensures.1 in
    let content = g.S.Space.content c.args.space.now in
    let first = c.from.ensures in
    let failed = rw first at c.in_err-write_piece.ensures in
    let fits : c.loop-done.done + c.min-len.result ≤ c.args.count = omega arith in
    rw p.1 (begun content _ _ _ c.args.address c.loop-done.done c.min-len.result failed.0.0 c.args.count c.loop-done.invariant.taken fits failed.0.1, failed.1 ∙ ap (λ (n : ℕ). n + 1) c.loop-done.invariant.failures)

pub loop-done-preserved : goal.loop-done-preserved
loop-done-preserved g c =
    let content = g.S.Space.content c.args.space.now in
    let first = c.from.ensures in
    let written = rw first at c.in_ok-write_piece.ensures in
    record {
      within = omega arith;
      taken = more content _ _ _ c.args.address c.loop-done.done c.min-len.result c.loop-done.invariant.taken written.0;
      failures = written.1 ∙ c.loop-done.invariant.failures;
    }
