-- The first section whose name is too far, or that has too many relocations.
use Rattle.std.proofs.Common.{◌∙◌, refl, ap}
use Rattle.std.specs.Prelude.{map, nat_lt, position}
use Rattle.pe_view.specs.FirstStanding.{first-in, first-past}
use Rattle.coff_object.specs.PartsView.{parts_view}
use Rattle.coff_read.specs.ObjectView.{section_view}
use Rattle.coff_object.specs.WriteFaults.{each_item, is_far, has_many_relocations}
use Rattle.coff_object.specs.Written.{strings_of}
use Rattle.coff_object.proofs.Far.{far-position}
use Rattle.coff_object.proofs.Items.{item_found, no_item, first_told}
use Rattle.coff_object.proofs.write.check_sections.Goals as goal

pub returns-in-Some : goal.returns-in-Some
returns-in-Some g c =
    let sections = map section_view c.args.object.now.sections.now in
    let strings = strings_of (parts_view g.S.WideSymbol.view c.args.object.now) in
    let texts =
    ap (position (nat_lt 9999999)) (c.as_slice.ensures.value ∙ c.requires.sections) ∙ far-position strings sections in
    let first = item_found 82 (is_far strings) 0 c.in-Some.index sections sections refl (c.in-Some.ensures ∙ texts) in
    first-in (each_item 82 (is_far strings) 0 sections) (each_item 83 has_many_relocations 0 sections) _ (first ∙ first_told 82 c.in-Some.index c.item_fault.result c.item_fault.ensures)

pub returns-in-Some-crowded_section : goal.returns-in-Some-crowded_section
returns-in-Some-crowded_section g c =
    let sections = map section_view c.args.object.now.sections.now in
    let strings = strings_of (parts_view g.S.WideSymbol.view c.args.object.now) in
    let texts =
    ap (position (nat_lt 9999999)) (c.as_slice.ensures.value ∙ c.requires.sections) ∙ far-position strings sections in
    let none = no_item 82 (is_far strings) 0 sections sections refl (c.in_default.ensures ∙ texts) in
    let first = item_found 83 has_many_relocations 0 c.in-Some-crowded_section.index sections sections refl c.in-Some-crowded_section.ensures in
    first-past (each_item 82 (is_far strings) 0 sections) (each_item 83 has_many_relocations 0 sections) none ∙ first ∙ first_told 83 c.in-Some-crowded_section.index c.item_fault-in-Some-crowded_section.result c.item_fault-in-Some-crowded_section.ensures

pub returns : goal.returns
returns g c =
    let sections = map section_view c.args.object.now.sections.now in
    let strings = strings_of (parts_view g.S.WideSymbol.view c.args.object.now) in
    let texts =
    ap (position (nat_lt 9999999)) (c.as_slice.ensures.value ∙ c.requires.sections) ∙ far-position strings sections in
    let none = no_item 82 (is_far strings) 0 sections sections refl (c.in_default.ensures ∙ texts) in
    let later = no_item 83 has_many_relocations 0 sections sections refl c.in_default-crowded_section.ensures in
    (first-past (each_item 82 (is_far strings) 0 sections) (each_item 83 has_many_relocations 0 sections) none ∙ later, tt)
