-- A new string is at the table's end.
use Rattle.std.proofs.Common.{◌≡◌, ◌∙◌, ℕ, List, false, inl, inr, sym, ap}
use Rattle.std.proofs.lemmas.Bool.{cases_Bool}
use Rattle.std.proofs.lemmas.Option.{none-some}
use Rattle.coff_read.specs.Strings.{is_among, offset_of}
use Rattle.coff_object.specs.Slots.{texts_of}
use Rattle.coff_object.specs.StringTableView.{counted}
use Rattle.coff_object.proofs.Offsets.{offset-new}
use Rattle.coff_object.proofs.string_table.StringTable.add.Goals as goal

pub returns-clause-offset : goal.returns-clause-offset
returns-clause-offset g c =
    let table = c.args.self.now in
    let text = c.args.text.now in
    let texts : List (List ℕ) = texts_of table.entries.items in
    let new : is_among text texts ≡ false = elim (cases_Bool (is_among text texts)) [
      | inl there ↦ absurd (none-some (counted (offset_of texts text)) (let e = c.in_default.ensures in rw there at e))
      | inr missing ↦ missing
    ] in
    table.whole.size_is ∙ ap counted (sym (offset-new 4 texts text new)) ∙ ap (λ (ts : List (List ℕ)). counted (offset_of ts text)) (sym c.in_ok-append.ensures)
