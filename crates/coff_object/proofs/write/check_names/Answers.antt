-- The first name with a zero byte.
use Rattle.std.proofs.Common.{refl, ◌∙◌, ◌+◌, ◌-◌, ◌^◌, ℕ, length, ap, sym}
use Rattle.std.specs.Prelude.{map, min}
use Rattle.std.proofs.lemmas.List.{length-map}
use Rattle.pe_view.specs.FirstStanding.{first-in, first-past}
use Rattle.coff_read.specs.ObjectView.{section_view}
use Rattle.coff_read.specs.Records.{Section, Symbol}
use Rattle.coff_object.specs.WriteFaults.{each_item, has_zero}
use Rattle.coff_object.proofs.Items.{item_found, no_item, first_told, later_told}
use Rattle.coff_object.proofs.write.check_names.Goals as goal

pub returns-in-Some : goal.returns-in-Some
returns-in-Some g c =
    let sections = map section_view c.args.object.now.sections.now in
    let symbols = map g.S.WideSymbol.view c.args.object.now.symbols.now in
    let first = item_found 81 (λ (s : Section). has_zero s.name) 0 c.in-Some.index sections sections refl c.in-Some.ensures in
    first-in (each_item 81 (λ (s : Section). has_zero s.name) 0 sections) (each_item 81 (λ (s : Symbol). has_zero s.name) (length sections) symbols) _
    (first ∙ first_told 81 c.in-Some.index c.item_fault.result c.item_fault.ensures)

pub returns-in-Some-zero_in_symbols : goal.returns-in-Some-zero_in_symbols
returns-in-Some-zero_in_symbols g c =
    let sections = map section_view c.args.object.now.sections.now in
    let symbols = map g.S.WideSymbol.view c.args.object.now.symbols.now in
    let index = c.in-Some-zero_in_symbols.index in
    let none = no_item 81 (λ (s : Section). has_zero s.name) 0 sections sections refl c.in_default.ensures in
    let count = sym (length-map c.args.object.now.sections.now section_view) in
    let sum = c.saturating_add.ensures ∙ ap (λ (n : ℕ). min (n + index) (2 ^ 64 - 1)) count in
    let first = item_found 81 (λ (s : Symbol). has_zero s.name) (length sections) index symbols symbols refl c.in-Some-zero_in_symbols.ensures in
    first-past (each_item 81 (λ (s : Section). has_zero s.name) 0 sections) (each_item 81 (λ (s : Symbol). has_zero s.name) (length sections) symbols) none
    ∙ first ∙ later_told 81 (length sections) index c.saturating_add.result c.item_fault-in-Some-zero_in_symbols.result sum c.item_fault-in-Some-zero_in_symbols.ensures

pub returns : goal.returns
returns g c =
    let sections = map section_view c.args.object.now.sections.now in
    let symbols = map g.S.WideSymbol.view c.args.object.now.symbols.now in
    let none = no_item 81 (λ (s : Section). has_zero s.name) 0 sections sections refl c.in_default.ensures in
    let later = no_item 81 (λ (s : Symbol). has_zero s.name) (length sections) symbols symbols refl c.in_default-zero_in_symbols.ensures in
    (first-past (each_item 81 (λ (s : Section). has_zero s.name) 0 sections) (each_item 81 (λ (s : Symbol). has_zero s.name) (length sections) symbols) none ∙ later, tt)
