use Rattle.std.proofs.Common.{◌≤◌, arith}
use Rattle.pe_layout.specs.Layout.{headers_of}
use Rattle.pe_parts.proofs.Pieces.{held_is}
use Rattle.pe_parts.proofs.held.held_end.Goals as goal

pub returns-clause-there : goal.returns-clause-there
returns-clause-there c = λ k low high.
    let from : c.held_piece-piece.result.start ≤ k = omega (arith, low, c.held_piece-piece.ensures.begins) in
    (held_is (headers_of c.args.layout.now) k c.held_piece-piece.result.end (c.held_piece-piece.ensures.all k from high) high).0

pub returns-clause-piece : goal.returns-clause-piece
returns-clause-piece c = λ k low high.
    let from : c.held_piece-piece.result.start ≤ k = omega (arith, low, c.held_piece-piece.ensures.begins) in
    (held_is (headers_of c.args.layout.now) k c.held_piece-piece.result.end (c.held_piece-piece.ensures.all k from high) high).1
