-- The names of sections come first, then those of symbols.
use Rattle.std.proofs.Common.{◌∙◌, ap}
use Rattle.std.specs.Prelude.{map}
use Rattle.coff_read.specs.ObjectView.{section_view}
use Rattle.coff_object.specs.PartsView.{parts_view}
use Rattle.coff_object.specs.StringTableWords.{texts_in}
use Rattle.coff_read.specs.Strings.{with_strings}
use Rattle.coff_object.specs.Written.{long_section_names}
use Rattle.coff_object.proofs.NamePlaces.{placed}
use Rattle.coff_object.proofs.layout.place_names.Goals as goal

pub returns : goal.returns
returns g c =
    let o = parts_view g.S.WideSymbol.view c.args.object.now in
    let one = texts_in c.add_section_names.new.strings in
    let two = texts_in c.add_symbol_names.new.strings in
    let p =
    placed o one two c.in_ok-sections.sections.items c.in_ok-symbols.symbols.items
    (c.in_ok-sections.ensures.texts ∙ ap (λ ts. with_strings ts (long_section_names (map section_view c.args.object.now.sections.now))) c.in_ok-strings.ensures)
    c.in_ok-symbols.ensures.texts c.in_ok-sections.ensures.places c.in_ok-symbols.ensures.places in
    record { texts = p.texts; sections = p.sections; symbols = p.symbols }
