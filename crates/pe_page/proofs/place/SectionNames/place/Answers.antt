use Rattle.std.proofs.Common.{◌∙◌, sym, subst}
use Rattle.pe_layout.specs.Layout.{headers_of}
use Rattle.pe_layout.specs.declared.locate.Located.{Located}
use Rattle.pe_page.specs.Places.{IsPlaceOf}
use Rattle.pe_page.proofs.place.SectionNames.place.Goals as goal

pub returns-in-Raw : goal.returns-in-Raw
returns-in-Raw c =
    let is = sym c.in-Raw.is ∙ c.locate.ensures in
    subst (λ (l : Located). IsPlaceOf c.args.self.now.names.items (headers_of c.args.layout.now) c.args.rva l c.in_section.result) is c.in_section.ensures

pub returns-in-Zero : goal.returns-in-Zero
returns-in-Zero c =
    let is = sym c.in-Zero.is ∙ c.locate.ensures in
    subst (λ (l : Located). IsPlaceOf c.args.self.now.names.items (headers_of c.args.layout.now) c.args.rva l c.in_section-in-Zero.result) is c.in_section-in-Zero.ensures
