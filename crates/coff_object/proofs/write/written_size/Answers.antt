-- The sum of the parts' sizes.
use denote.Param.{number}
use Rattle.std.proofs.Common.{length, sym, arith, ◌≡◌, ◌+◌}
use Rattle.std.proofs.lemmas.List.{length-map}
use Rattle.coff_object.specs.PartsView.{parts_view}
use Rattle.coff_read.specs.ObjectView.{section_view}
use Rattle.coff_read.specs.Forms.{header_len}
use Rattle.coff_object.specs.FormWritten.{optional_of}
use Rattle.coff_object.specs.contracts.write.written_size.{BIG-type}
use Rattle.coff_object.proofs.WrittenSize.{canon_size}
use Rattle.coff_object.proofs.write.written_size.Goals as goal

pub returns : goal.returns
returns g c =
    let big = BIG-type g.row.A g.row.S (number g.row.BIG) in
    let whole = canon_size big (parts_view g.S.WideSymbol.view c.args.object.now) c.requires.near in
    let count = sym (length-map c.args.object.now.sections.now section_view) in
    let head : c.header_size.result ≡ header_len big + length (optional_of big (parts_view g.S.WideSymbol.view c.args.object.now)) = c.header_size.ensures in
    let bodies = c.bodies_size.ensures in
    let symbols = c.symbols_size.ensures in
    omega (arith, whole, count, head, bodies, symbols)
