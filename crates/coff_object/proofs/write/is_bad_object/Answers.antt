-- Each part of fault 85, in order.
use denote.Param.{number}
use Rattle.std.proofs.Common.{◌∙◌, ℕ, Bool, length, sym, ap, arith, ◌≤◌}
use Rattle.std.specs.Prelude.{◌||◌}
use Rattle.std.specs.List.{list_any}
use Rattle.std.proofs.lemmas.Bool.{or_left}
use Rattle.std.proofs.lemmas.List.{length-map}
use Rattle.coff_read.specs.Form.{is_bad_section}
use Rattle.coff_read.specs.FormRecords.{records_of, is_bad_symbol}
use Rattle.coff_read.specs.ObjectView.{section_view}
use Rattle.coff_object.specs.FormWriteFaults.{is_bad_header, most_sections, is_misread}
use Rattle.coff_object.specs.PartsView.{parts_view}
use Rattle.coff_object.specs.contracts.write.is_bad_object.{BIG-type}
use Rattle.coff_object.proofs.WrittenSize.{bad_object, few_records}
use Rattle.coff_object.proofs.write.is_bad_object.Goals as goal

pub returns-then-is_bad_header : goal.returns-then-is_bad_header
returns-then-is_bad_header g c =
    let big = BIG-type g.row.A g.row.S (number g.row.BIG) in
    let o = parts_view g.S.WideSymbol.view c.args.object.now in
    sym (or_left (is_bad_header big o) _ (sym c.is_bad_header.ensures ∙ c.if-is_bad_header.true))

pub returns-then-is_misread : goal.returns-then-is_misread
returns-then-is_misread g c =
    let big = BIG-type g.row.A g.row.S (number g.row.BIG) in
    let o = parts_view g.S.WideSymbol.view c.args.object.now in
    let header = sym c.is_bad_header.ensures ∙ c.if-is_bad_header.false in
    let count = sym (length-map c.args.object.now.sections.now section_view) in
    let most = c.most_sections.ensures in
    let few : length o.sections ≤ most_sections big = (let under = c.if-object-most_sections.false in omega (arith, under, count, most)) in
    sym (bad_object big o header few ∙ or_left (is_misread big o) _ (sym c.is_misread.ensures ∙ c.if-is_misread.true))

pub returns : goal.returns
returns g c =
    let big = BIG-type g.row.A g.row.S (number g.row.BIG) in
    let o = parts_view g.S.WideSymbol.view c.args.object.now in
    let header = sym c.is_bad_header.ensures ∙ c.if-is_bad_header.false in
    let count = sym (length-map c.args.object.now.sections.now section_view) in
    let most = c.most_sections.ensures in
    let few : length o.sections ≤ most_sections big = (let under = c.if-object-most_sections.false in omega (arith, under, count, most)) in
    let misread = sym c.is_misread.ensures ∙ c.if-is_misread.false in
    let records = c.requires.records ∙ few_records big o c.requires.small in
    c.has_bad_item.ensures ∙ ap (λ (n : ℕ). list_any (is_bad_section n) o.sections || list_any (is_bad_symbol big (length c.args.object.now.sections.now)) o.symbols) records
    ∙ ap (λ (n : ℕ). list_any (is_bad_section (records_of big o.symbols)) o.sections || list_any (is_bad_symbol big n) o.symbols) count
    ∙ sym (bad_object big o header few ∙ ap (λ (b : Bool). b || (list_any (is_bad_section (records_of big o.symbols)) o.sections || list_any (is_bad_symbol big (length o.sections)) o.symbols)) misread)
