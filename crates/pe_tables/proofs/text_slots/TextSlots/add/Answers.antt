-- The slot at the string's place says whether it was added.
use Rattle.std.proofs.Common.{◌∙◌, not, get_or, set, Some, ap, sym}
use Rattle.pe_tables.specs.TextMap.{found}
use Rattle.pe_tables.proofs.TextMap.{set_at}
use Rattle.pe_tables.proofs.TextRun.{place-found}
use Rattle.pe_tables.proofs.text_slots.TextSlots.add.Goals as goal

pub returns-then-is_some : goal.returns-then-is_some
returns-then-is_some g c =
    let self = c.args.self.now in
    let k = c.in_ok-place.place in
    let slot = c.index.result.now in
    let place = c.in_ok-place.ensures.place in
    let same = ap (λ slots. slots.items) c.in_ok-place.ensures.same in
    let at = c.index.ensures ∙ ap (λ slots. get_or slots k slot) same in (
      slot.1,
      place-found self.slots.items c.args.text.now k slot self.ascending place.0 (place.1 slot) ∙ ap (λ slot. Some slot.1) (sym at),
      sym (ap not (sym c.is_some.ensures ∙ c.if-is_some.true)),
      λ other. ap (found other) same,
    )

pub returns : goal.returns
returns g c =
    let self = c.args.self.now in
    let k = c.in_ok-place.place in
    let slot = c.index.result.now in
    let old = c.index_mut.result.now in
    let place = c.in_ok-place.ensures.place in
    let same = ap (λ slots. slots.items) c.in_ok-place.ensures.same in
    let at = c.index.ensures ∙ ap (λ slots. get_or slots k slot) same in
    let was = c.index_mut.ensures.value ∙ ap (λ slots. get_or slots k old) same in (
      slot.1,
      place-found self.slots.items c.args.text.now k slot self.ascending place.0 (place.1 slot) ∙ ap (λ slot. Some slot.1) (sym at),
      sym (ap not (sym c.is_some.ensures ∙ c.if-is_some.false)),
      λ other.
          ap (λ slots. found other (set slots k (old.0, Some c.args.target))) same
          ∙ ap (λ slot. found other (set self.slots.items k (slot.0, Some c.args.target))) was
          ∙ set_at c.args.text (Some c.args.target) other self.slots.items k old self.ascending place.0 (place.1 old),
    )
