use Rattle.std.proofs.Common.{◌≡◌, ◌∙◌, ◌+◌, ◌≤◌, ℕ, [], Ok, Err, drop, length, refl, sym, subst, append-nil, arith}
use Rattle.std.proofs.lemmas.List.{length-append, length-drop, length-take-le}
use Rattle.std.proofs.lemmas.Result.{err_from_is_err_and}
use Rattle.pe_layout_file.specs.Copied.{CopiesPiece}
use Rattle.pe_layout_file.proofs.Moving.{counted, is_early, piece_ended, piece_more}
use Rattle.pe_layout_file.proofs.copying.copy_range.Goals as goal

pub loop-done-init : goal.loop-done-init
loop-done-init g c = record {
  within = omega arith;
  copies = ([], [], sym (append-nil _), sym (append-nil _), λ file whole has. refl);
  reads = refl;
  writes = refl;
  room = refl;
}

pub returns-in_err-more-clause-copies : goal.returns-in_err-more-clause-copies
returns-in_err-more-clause-copies g c =
    let p = err_from_is_err_and c.from_residual.result c.from_residual.ensures.1 in
    let piece : CopiesPiece (c.args.offset + c.loop-done.done) (length c.copy_piece.new.buffer) (g.R.PartSource.parts c.loop-done.reader) (g.R.PartSource.parts c.copy_piece.new.reader) (g.W.Sink.taken c.loop-done.writer) (g.W.Sink.taken c.copy_piece.new.writer) (Err c.in_err-more.field-0.0) =
    subst (λ (start : ℕ). CopiesPiece (start + c.loop-done.done) (length c.copy_piece.new.buffer) (g.R.PartSource.parts c.loop-done.reader) (g.R.PartSource.parts c.copy_piece.new.reader) (g.W.Sink.taken c.loop-done.writer) (g.W.Sink.taken c.copy_piece.new.writer) (Err c.in_err-more.field-0.0)) c.from-start.ensures c.in_err-more.ensures.copies in
    let front = length-take-le c.min-len.result c.loop-done.buffer (omega (arith, c.min-len.ensures)) in
    let room : length c.copy_piece.new.buffer ≡ c.min-len.result = omega (arith, c.copy_piece.auto.buffer, front) in
    let len = c.min-len.ensures in
    let within = c.loop-done.invariant.within in
    rw p.1 (piece_ended c.args.offset c.args.count c.loop-done.done _ _ _ _ _ _ _ (omega (arith, room, len, within)) c.loop-done.invariant.copies c.in_err-more.field-0.0 piece)

pub returns-then-more-eq0-clause-copies : goal.returns-then-more-eq0-clause-copies
returns-then-more-eq0-clause-copies g c =
    let piece : CopiesPiece (c.args.offset + c.loop-done.done) (length c.copy_piece.new.buffer) (g.R.PartSource.parts c.loop-done.reader) (g.R.PartSource.parts c.copy_piece.new.reader) (g.W.Sink.taken c.loop-done.writer) (g.W.Sink.taken c.copy_piece.new.writer) (Ok c.in_ok-more.more) =
    subst (λ (start : ℕ). CopiesPiece (start + c.loop-done.done) (length c.copy_piece.new.buffer) (g.R.PartSource.parts c.loop-done.reader) (g.R.PartSource.parts c.copy_piece.new.reader) (g.W.Sink.taken c.loop-done.writer) (g.W.Sink.taken c.copy_piece.new.writer) (Ok c.in_ok-more.more)) c.from-start.ensures c.in_ok-more.ensures.copies in
    let none : length piece.0 ≡ 0 = piece.2 ∙ c.if-more-eq0.true in
    let within = c.loop-done.invariant.within in
    is_early c.args.offset c.args.count (c.loop-done.done + length piece.0) _ _ _ _ (omega (arith, none, within))
    (piece_more c.args.offset c.args.count c.loop-done.done _ _ _ _ _ _ piece.0 c.loop-done.invariant.copies piece.1.1 (omega (arith, none, within)) piece.3)

pub loop-done-preserved : goal.loop-done-preserved
loop-done-preserved g c =
    let piece : CopiesPiece (c.args.offset + c.loop-done.done) (length c.copy_piece.new.buffer) (g.R.PartSource.parts c.loop-done.reader) (g.R.PartSource.parts c.copy_piece.new.reader) (g.W.Sink.taken c.loop-done.writer) (g.W.Sink.taken c.copy_piece.new.writer) (Ok c.in_ok-more.more) =
    subst (λ (start : ℕ). CopiesPiece (start + c.loop-done.done) (length c.copy_piece.new.buffer) (g.R.PartSource.parts c.loop-done.reader) (g.R.PartSource.parts c.copy_piece.new.reader) (g.W.Sink.taken c.loop-done.writer) (g.W.Sink.taken c.copy_piece.new.writer) (Ok c.in_ok-more.more)) c.from-start.ensures c.in_ok-more.ensures.copies in
    let front = length-take-le c.min-len.result c.loop-done.buffer (omega (arith, c.min-len.ensures)) in
    let room : length c.copy_piece.new.buffer ≡ c.min-len.result = omega (arith, c.copy_piece.auto.buffer, front) in
    let len = c.min-len.ensures in
    let few = piece.1.0 in
    let within = c.loop-done.invariant.within in
    let fits : c.loop-done.done + length piece.0 ≤ c.args.count = omega (arith, few, room, len, within) in
    let more = piece_more c.args.offset c.args.count c.loop-done.done _ _ _ _ _ _ piece.0 c.loop-done.invariant.copies piece.1.1 fits piece.3 in
    let rest = length-drop c.min-len.result c.loop-done.buffer in
    let whole = length-append c.copy_piece.new.buffer (drop c.min-len.result c.loop-done.buffer) in
    let kept = c.loop-done.invariant.room in
    record {
      within = subst (λ (n : ℕ). c.loop-done.done + n ≤ c.args.count) piece.2 fits;
      copies = counted c.args.offset c.args.count c.loop-done.done _ _ _ _ _ _ piece.2 more;
      reads = c.in_ok-more.ensures.counts.0 ∙ c.loop-done.invariant.reads;
      writes = c.in_ok-more.ensures.counts.1 ∙ c.loop-done.invariant.writes;
      room = omega (arith, rest, whole, kept, room, len);
    }
