-- The guess was tested.
use Rattle.std.proofs.Common.{refl}
use Rattle.pe_tables.proofs.text_slots.TextSlots.next_place.Goals as goal

pub returns-then-is_at-clause-place : goal.returns-then-is_at-clause-place
returns-then-is_at-clause-place g c =
    let within = c.if-is_at.ensures.within refl in
    let same = c.if-is_at.ensures.same refl in
    (rw c.as_slice.ensures.value at within, λ slot. rw c.as_slice.ensures.value at same slot)
