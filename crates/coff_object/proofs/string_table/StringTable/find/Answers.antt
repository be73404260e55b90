-- The string's offset is found by a slot, or among the others, or the string is in neither.
use Rattle.std.proofs.Common.{◌∙◌, ◌+◌, ℕ, List, refl, sym, ap}
use Rattle.std.specs.Prelude.{slice_index}
use Rattle.coff_object.specs.Slots.{Entry, base, offset_at, IsUntold}
use Rattle.coff_object.proofs.TableFinds.{slot_answers, others_answer}
use Rattle.coff_object.proofs.string_table.StringTable.find.Goals as goal

pub returns-in-Some : goal.returns-in-Some
returns-in-Some g c =
    let table = c.args.self.now in
    let text = c.args.text.now in
    let told = c.in-Some.ensures.told in
    let slot : ℕ = slice_index c.as_slice-slots.result.now (c.base-first.result + told.0) in
    slot_answers table.entries.items table.slots.items table.others table.size table.whole text slot c.in-Some.offset (ap (λ (es : List Entry). offset_at es text slot) (sym c.as_slice.ensures.value) ∙ told.1)

pub returns : goal.returns
returns g c =
    let table = c.args.self.now in
    let text = c.args.text.now in
    let entries = c.as_slice.result.now in
    let slots = c.as_slice-slots.result.now in
    let untold : IsUntold table.entries.items table.slots.items text = λ j lt.
    ap (λ (es : List Entry). offset_at es text (slice_index table.slots.items (base table.slots.items text + j))) (sym c.as_slice.ensures.value)
    ∙ ap (λ (ss : List ℕ). offset_at entries text (slice_index ss (base ss text + j))) (sym c.as_slice-slots.ensures.value)
    ∙ ap (λ (n : ℕ). offset_at entries text (slice_index slots (n + j))) (sym c.base-first.ensures.first)
    ∙ c.in_default.ensures.missing refl j lt in
    c.copied.ensures ∙ c.get.ensures.value ∙ others_answer table.entries.items table.slots.items table.others table.size table.whole text untold
