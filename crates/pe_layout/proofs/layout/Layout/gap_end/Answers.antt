use Rattle.std.proofs.Common.{◌∙◌, ℕ, Option, ap, sym, arith}
use Rattle.std.specs.Prelude.{option_map, unwrap_or}
use Rattle.std.proofs.lemmas.Option.{slice_get-get_or, slice_get_past}
use Rattle.pe_head.specs.declared.section.SectionHeader.{SectionHeader}
use Rattle.pe_layout.specs.Layout.{headers_of}
use Rattle.pe_layout.proofs.SectionPlaces.{no_header}
use Rattle.pe_layout.proofs.layout.Layout.gap_end.Goals as goal

-- where a gap ends before a section, if there is one
abbrev end_before : Option SectionHeader → ℕ → ℕ
end_before section last = unwrap_or (option_map (λ (s : SectionHeader). s.virtual_address) section) last

pub returns-then-index-section_count : goal.returns-then-index-section_count
returns-then-index-section_count c =
    let h = headers_of c.args.self.now in
    c.size_of_image.ensures
    ∙ sym (ap (λ (o : Option SectionHeader). end_before o h.size_of_image)
    (slice_get_past h.sections.items c.args.index (omega (arith, c.section_count.ensures.value, c.if-index-section_count.true))))

pub returns : goal.returns
returns c =
    let h = headers_of c.args.self.now in
    ap (λ (s : SectionHeader). s.virtual_address) (c.section.ensures no_header)
    ∙ sym (ap (λ (o : Option SectionHeader). end_before o h.size_of_image)
    (slice_get-get_or h.sections.items c.args.index no_header (omega (arith, c.section_count.ensures.value, c.if-index-section_count.false))))
