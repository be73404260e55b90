use Rattle.std.proofs.Common.{◌∙◌, Some, ap, sym, arith}
use Rattle.std.proofs.lemmas.Option.{slice_get-get_or, slice_get_past}
use Rattle.pe_layout.specs.Layout.{headers_of}
use Rattle.pe_layout.proofs.SectionPlaces.{no_header}
use Rattle.pe_layout.proofs.layout.Layout.section.Goals as goal

pub returns-then-index-section_count : goal.returns-then-index-section_count
returns-then-index-section_count c =
    sym (slice_get_past (headers_of c.args.self.now).sections.items c.args.index (omega (arith, c.section_count.ensures.value, c.if-index-section_count.true)))

pub returns : goal.returns
returns c =
    ap Some (c.section.ensures no_header)
    ∙ sym (slice_get-get_or (headers_of c.args.self.now).sections.items c.args.index no_header (omega (arith, c.section_count.ensures.value, c.if-index-section_count.false)))
