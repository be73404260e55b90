use Rattle.std.proofs.Common.{rules, arith, ℕ, ◌≡◌, ◌+◌, ◌≤◌, ◌<◌, [], ◌++◌, length, take, ap, sym, refl, ◌∙◌, append-nil, length-take-le, length-append}
use Rattle.pe_text.proofs.Pieces.{piece_behind}
use Rattle.pe_text.proofs.whole_file.read_piece.Goals as goal

pub returns-in-Ok-clause-piece : goal.returns-in-Ok-clause-piece
returns-in-Ok-clause-piece g c =
    let n = c.in-Ok.count in
    let room = c.read.new.buffer in
    let front = take c.args.filled c.args.bytes.now.items in
    let same : take c.args.filled c.deref_mut.result.now ≡ front = ap (take c.args.filled) c.deref_mut.ensures.value ∙ c.make_room.ensures.front in
    let long : length (take n room) ≡ n = length-take-le n room c.in-Ok.ensures.fits in
    let within : length front + n ≤ c.make_room.new.bytes.len = search rules in
    (take n room, c.in-Ok.ensures.given, omega (arith, length-append {A = ℕ}, long, within, c.make_room.ensures.few), (long, rw same (piece_behind front room _ _ _ n within c.in-Ok.ensures.fits), search rules, c.in-Ok.ensures.failures))

pub returns-then-is_err-clause-piece : goal.returns-then-is_err-clause-piece
returns-then-is_err-clause-piece g c =
    let front = take c.args.filled c.args.bytes.now.items in
    let same : length (front ++ []) ≡ c.args.filled = ap length (append-nil front) ∙ length-take-le c.args.filled c.args.bytes.now.items (search rules) in
    let some : 0 < c.args.filled = search rules in
    ([], sym (append-nil _), omega (arith, same, c.requires.more), (omega (arith, same, some), refl))

pub returns-in-Err-clause-piece : goal.returns-in-Err-clause-piece
returns-in-Err-clause-piece g c =
    let front = take c.args.filled c.args.bytes.now.items in
    let same : length (front ++ []) ≡ c.args.filled = ap length (append-nil front) ∙ length-take-le c.args.filled c.args.bytes.now.items (search rules) in
    ([], c.in-Err.ensures.given ∙ sym (append-nil _), omega (arith, same, c.requires.more), c.in-Err.ensures.failures)
