-- The parts, in order.
use denote.Param.{number}
use Rattle.coff_object.specs.PartsView.{parts_view}
use Rattle.coff_object.specs.StringTableWords.{texts_in}
use Rattle.coff_object.specs.contracts.write.write_parts.{BIG-type}
use Rattle.coff_object.proofs.Form.{parts_are}
use Rattle.coff_object.proofs.write.write_parts.Goals as goal

pub returns-clause-bytes : goal.returns-clause-bytes
returns-clause-bytes g c =
    let big = BIG-type g.row.A g.row.S (number g.row.BIG) in
    parts_are big (parts_view g.S.WideSymbol.view c.args.object.now) (texts_in c.args.places.now.strings) _ _ _ c.requires.places.texts
    c.in_ok-bytes.ensures.items
    (rw (c.bodies_start.ensures, c.in_ok-push_optional.ensures, c.in_ok-push_header.ensures.bytes) at c.in_ok-push_table.ensures.bytes)
    (rw (c.in_ok-push_symbols.ensures.bytes, c.in_ok-push_bodies.ensures.bytes) at c.in_ok-push_strings.ensures)
