use Rattle.std.proofs.Common.{◌≡◌, ◌∙◌, ap, arith}
use Rattle.pe_view.specs.View.{bytes_of}
use Rattle.pe_head.specs.Head.{section_start}
use Rattle.pe_head.specs.Section.{section_header}
use Rattle.pe_head.proofs.fields.Fields.section.Goals as goal

pub returns : goal.returns
returns c =
    let file = bytes_of c.args.self.now.view in
    let at : c.optional-start.result ≡ section_start file c.args.index = omega (arith, c.optional-start.ensures, c.from.ensures, c.coff_u16.ensures) in
    c.read.ensures ∙ ap (section_header file) at
