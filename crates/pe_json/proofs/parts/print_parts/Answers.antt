use Rattle.std.proofs.Common.{List, ℕ, Ok, Err, ◌∙◌, ap, refl, sym, map}
use Rattle.pe_tables.specs.ImportView.{import_view}
use Rattle.coff_read.specs.ImageNames.{image_strings}
use Rattle.pe_parts.specs.AtHand.{can_decide_tables}
use Rattle.pe_json.specs.JsonByParts.{IsLineOfParts}
use Rattle.pe_json.proofs.ByParts.{puts_follow, line_of_parts}
use Rattle.pe_json.proofs.parts.print_parts.Goals as goal

pub returns-in-Ok-print_content : goal.returns-in-Ok-print_content
returns-in-Ok-print_content g c =
    let parts = c.args.parts in
    let strings = c.new-strings.ensures ∙ ap (λ (bytes : List ℕ). image_strings bytes parts.packed) (c.new.ensures ∙ c.deref.ensures.value) in
    let contents = rw c.in-Ok-Some.field-0-is at c.in-Ok-Some.ensures.contents in
    puts_follow _ (IsLineOfParts c.args.name.now parts) (line_of_parts c.args.name.now parts _ c.deref-2.result.now c.in-Ok-Some.tables _ _ c.deref-2.ensures.value
    (ap (map import_view) c.deref-in-Ok-Some.ensures.value) c.deref-in-Ok-Some-2.ensures.value strings contents)
    _ _ _ _ (Ok c.in-Ok-print_content.outcome) (rw c.in-Ok-print_content.is at c.print_content.ensures)

pub returns-in-Ok-Some : goal.returns-in-Ok-Some
returns-in-Ok-Some g c =
    let parts = c.args.parts in
    let strings = c.new-strings.ensures ∙ ap (λ (bytes : List ℕ). image_strings bytes parts.packed) (c.new.ensures ∙ c.deref.ensures.value) in
    let contents = rw c.in-Ok-Some.field-0-is at c.in-Ok-Some.ensures.contents in
    puts_follow _ (IsLineOfParts c.args.name.now parts) (line_of_parts c.args.name.now parts _ c.deref-2.result.now c.in-Ok-Some.tables _ _ c.deref-2.ensures.value
    (ap (map import_view) c.deref-in-Ok-Some.ensures.value) c.deref-in-Ok-Some-2.ensures.value strings contents)
    _ _ _ _ (Err c.in-Err-print_content.error) (rw c.in-Err-print_content.is at c.print_content.ensures)

pub returns-in-Ok-None : goal.returns-in-Ok-None
returns-in-Ok-None g c =
    let none = rw c.in-Ok-None.field-0-is at c.in-Ok-None.ensures.some in
    (refl, (refl, ap (λ (bytes : List ℕ). can_decide_tables 0 c.args.parts.packed bytes) (sym c.deref-2.ensures.value) ∙ sym none))
