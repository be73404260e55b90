-- No offset is found by a slot of the window, and there is no slot after it.
use Rattle.std.proofs.Common.{◌≡◌, ◌∙◌, ◌+◌, length, get_or, sym, ap, inl, inr, arith}
use Rattle.std.proofs.lemmas.Bool.{cases_lt}
use Rattle.coff_object.specs.Slots.{offset_at}
use Rattle.coff_object.proofs.Telling.{window_slot, past}
use Rattle.coff_object.proofs.slots.seek.Goals as goal

pub returns-clause-missing : goal.returns-clause-missing
returns-clause-missing c = λ e j lt.
    let window = c.window-slot-items.result.now in
    let here : get_or window j 0 ≡ get_or c.args.slots.now (c.args.first + j) 0 = ap (λ xs. get_or xs j 0) c.window-slot-items.ensures ∙ window_slot c.args.slots.now c.args.first j lt in
    ap (offset_at c.args.entries.now c.args.text.now) (sym here) ∙ elim (cases_lt j (length window)) [
      | inl inside ↦ c.loop-slot.invariant j (omega (arith, inside))
      | inr behind ↦ ap (offset_at c.args.entries.now c.args.text.now) (past window j behind)
    ]
