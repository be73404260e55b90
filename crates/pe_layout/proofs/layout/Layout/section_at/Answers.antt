use Rattle.std.proofs.Common.{sym, arith}
use Rattle.pe_view.specs.View.{size_of}
use Rattle.pe_layout.specs.Layout.{headers_of}
use Rattle.pe_layout.proofs.SectionPlaces.{no_header}
use Rattle.pe_layout.proofs.OfLayout.{sections_placed}
use Rattle.pe_layout.proofs.Finding.{in_none}
use Rattle.pe_layout.proofs.layout.Layout.section_at.Goals as goal

pub returns-then-rva-size_of_image-clause-found : goal.returns-then-rva-size_of_image-clause-found
returns-then-rva-size_of_image-clause-found c =
    let l = c.args.self.now in
    sym (in_none (headers_of l) (size_of l.view) (sections_placed l) c.args.rva no_header (omega (arith, c.size_of_image.ensures, c.if-rva-size_of_image.true)))
