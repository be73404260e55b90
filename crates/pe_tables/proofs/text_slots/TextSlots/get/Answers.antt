-- Where a string is, its value is.
use Rattle.std.proofs.Common.{◌∙◌, Some, ap, sym}
use Rattle.pe_tables.proofs.TextRun.{place-found}
use Rattle.pe_tables.proofs.text_slots.TextSlots.get.Goals as goal

pub returns-in-Some : goal.returns-in-Some
returns-in-Some g c =
    let self = c.args.self.now in
    let place = rw c.as_slice.ensures.value at c.in-Some.ensures in
    ap (λ slot. Some slot.1) c.index.ensures ∙ sym (place-found self.slots.items c.args.text.now c.in-Some.place c.index.result.now self.ascending place.0 (place.1 c.index.result.now))
