use Rattle.std.proofs.Common.{sym, ◌∙◌}
use Rattle.std.proofs.lemmas.Bool.{le-leb}
use Rattle.pe_layout.specs.Layout.{headers_of}
use Rattle.pe_parts.proofs.Pieces.{text_in, text_is}
use Rattle.pe_parts.proofs.exports.piece_at.Goals as goal

pub returns-then-covers-clause-exact : goal.returns-then-covers-clause-exact
returns-then-covers-clause-exact c =
    text_in (headers_of c.args.layout.now) c.args.last.start c.args.last.end c.args.rva c.requires (sym c.covers.ensures ∙ c.if-covers.true)

pub returns-else-covers-clause-exact : goal.returns-else-covers-clause-exact
returns-else-covers-clause-exact c =
    rw (le-leb c.held_piece.result.start c.args.rva c.held_piece.ensures.begins) (text_is (headers_of c.args.layout.now) c.args.rva c.held_piece.result.end (sym c.held_piece.ensures.ends))
