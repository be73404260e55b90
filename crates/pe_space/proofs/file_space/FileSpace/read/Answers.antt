use Rattle.std.proofs.Common.{arith, ◌≡◌, ◌+◌, ◌<◌, ◌∙◌, ap, sym, subst, ℕ, List, ◌∷◌, length, drop, get_or}
use Rattle.std.specs.List.{Contains}
use Rattle.std.proofs.lemmas.List.{at_drop_more, drop_all}
use Rattle.std.proofs.lemmas.List.Elements.{Contains-get_or}
use Rattle.pe_set.specs.declared.binding.Binding.{Binding}
use Rattle.pe_space.specs.Content.{SpaceImage, Content, nth_image, byte_in, slot_width}
use Rattle.pe_space.specs.FileSpaceView.{file_content}
use Rattle.pe_space.specs.FieldsAndSlots.{IsImage, IsSlot}
use Rattle.pe_space.specs.Windows.{bytes_in, fixed_bytes, laid_on}
use Rattle.pe_space.proofs.Lists.{each_contains}
use Rattle.pe_space.proofs.Covering.{in_slot_of, slot_at, slots_still}
use Rattle.pe_space.proofs.FileSpaces.{image_at, address_fits, there, same_size}
use Rattle.pe_space.proofs.SlotsAndFields.{is_in-true}
use Rattle.pe_space.proofs.Windows.{Still, still_more, still_none, length-laid_on}
use Rattle.pe_space.proofs.file_space.FileSpace.read.Goals as goal

no_binding : Binding
no_binding = record { image = 0; slot = 0; exporter = 0; rva = 0 }

pub index-image-requires : goal.index-image-requires
index-image-requires g c =
    omega (arith, there (file_content c.self.inside.images.items c.self.inside.bindings.items) c.args.self.now c.args.number c.self.view_is c.requires.number, c.self.inside.images.ok.0)

pub read-requires-clause-sound : goal.read-requires-clause-sound
read-requires-clause-sound g c =
    let images = c.self.inside.images.items in
    let own = file_content images c.self.inside.bindings.items in
    let here : c.args.number < length images = there own c.args.self.now c.args.number c.self.view_is c.requires.number in
    subst IsImage (sym (image_at images c.args.number c.index-image.result.now here c.index-image.ensures)) (c.self.invariant.fields_and_slots.images c.args.number)

pub read-requires-clause-inside : goal.read-requires-clause-inside
read-requires-clause-inside g c =
    let images = c.self.inside.images.items in
    let own = file_content images c.self.inside.bindings.items in
    let here : c.args.number < length images = there own c.args.self.now c.args.number c.self.view_is c.requires.number in
    let size = ap (λ (m : SpaceImage). m.size) (image_at images c.args.number c.index-image.result.now here c.index-image.ensures) in
    omega (arith, size, same_size own c.args.self.now c.args.number c.self.view_is here, c.requires.inside)

pub slots_in-slot-items-requires-clause-small : goal.slots_in-slot-items-requires-clause-small
slots_in-slot-items-requires-clause-small g c =
    let images = c.self.inside.images.items in
    let own = file_content images c.self.inside.bindings.items in
    let here : c.args.number < length images = there own c.args.self.now c.args.number c.self.view_is c.requires.number in
    let small = c.self.invariant.small c.args.number in
    omega (arith, c.from.ensures, c.read.auto.window, small, same_size own c.args.self.now c.args.number c.self.view_is here, c.requires.inside)

pub loop-slot-init : goal.loop-slot-init
loop-slot-init g c =
    let images = c.self.inside.images.items in
    let own = file_content images c.self.inside.bindings.items in
    let here : c.args.number < length images = there own c.args.self.now c.args.number c.self.view_is c.requires.number in
    let image = image_at images c.args.number c.index-image.result.now here c.index-image.ensures in
    record {
      len = c.read.auto.window;
      still =
          subst (λ (x : Content). Still (byte_in x c.args.number) (in_slot_of c.slot_width-width.result) c.args.start c.slots_in-slot-items.result.now c.read.new.window) c.self.view_is
          (slots_still own c.self.invariant.fields_and_slots c.self.invariant.whole c.args.number here c.slot_width-width.result c.slots_in-slot-items.result.now c.args.start (length c.args.window.now) c.read.new.window
          (c.slot_width-width.ensures ∙ ap slot_width (c.magic.ensures ∙ ap (λ (m : SpaceImage). m.magic) image))
          (c.read.ensures ∙ ap (λ (m : SpaceImage). fixed_bytes m c.args.start (length c.args.window.now)) image)
          (λ b bound at low high. c.slots_in-slot-items.ensures.all b (subst (λ (x : Content). Contains x.bindings b) c.self.view_is bound) at low (omega (arith, high, c.from.ensures, c.read.auto.window))));
    }

pub index-requires : goal.index-requires
unfolding no_binding
index-requires g c =
    let images = c.self.inside.images.items in
    let slots = c.slots_in-slot-items.result.now in
    let i = c.loop-slot.slot-index in
    let b = get_or slots i no_binding in
    let held = c.slots_in-slot-items.ensures.held b (Contains-get_or slots i no_binding c.loop-slot-test.true) in
    let bound : Contains c.self.inside.bindings.items b = subst (λ (x : Content). Contains x.bindings b) (sym c.self.view_is) held.0 in
    let slot : IsSlot images b = each_contains (IsSlot images) c.self.inside.bindings.items b c.self.invariant.fields_and_slots.slots bound in
    omega (arith, slot.exporter, c.self.inside.images.ok.0)

pub overflow_add-address : goal.overflow_add-address
unfolding no_binding
overflow_add-address g c =
    let images = c.self.inside.images.items in
    let slots = c.slots_in-slot-items.result.now in
    let i = c.loop-slot.slot-index in
    let b = get_or slots i no_binding in
    let held = c.slots_in-slot-items.ensures.held b (Contains-get_or slots i no_binding c.loop-slot-test.true) in
    let bound : Contains c.self.inside.bindings.items b = subst (λ (x : Content). Contains x.bindings b) (sym c.self.view_is) held.0 in
    let slot : IsSlot images b = each_contains (IsSlot images) c.self.inside.bindings.items b c.self.invariant.fields_and_slots.slots bound in
    let base : c.base.result ≡ (nth_image images b.exporter).base = c.base.ensures ∙ ap (λ (m : SpaceImage). m.base) (image_at images b.exporter c.index.result.now slot.exporter c.index.ensures) in
    omega (arith, base, c.from-in-loop-slot.ensures, address_fits (file_content images c.self.inside.bindings.items) b c.self.invariant.placed slot)

pub loop-slot-preserved : goal.loop-slot-preserved
unfolding no_binding
loop-slot-preserved g c =
    let images = c.self.inside.images.items in
    let own = file_content images c.self.inside.bindings.items in
    let here : c.args.number < length images = there own c.args.self.now c.args.number c.self.view_is c.requires.number in
    let slots = c.slots_in-slot-items.result.now in
    let i = c.loop-slot.slot-index in
    let b = get_or slots i no_binding in
    let held = c.slots_in-slot-items.ensures.held b (Contains-get_or slots i no_binding c.loop-slot-test.true) in
    let bound : Contains c.self.inside.bindings.items b = subst (λ (x : Content). Contains x.bindings b) (sym c.self.view_is) held.0 in
    let slot : IsSlot images b = each_contains (IsSlot images) c.self.inside.bindings.items b c.self.invariant.fields_and_slots.slots bound in
    let base : c.base.result ≡ (nth_image images b.exporter).base = c.base.ensures ∙ ap (λ (m : SpaceImage). m.base) (image_at images b.exporter c.index.result.now slot.exporter c.index.ensures) in
    let address : c.base.result + c.from-in-loop-slot.result ≡ (nth_image images b.exporter).base + b.rva = omega (arith, base, c.from-in-loop-slot.ensures) in
    let image = image_at images c.args.number c.index-image.result.now here c.index-image.ensures in
    let w = c.slot_width-width.result in
    let width : w ≡ slot_width (nth_image images c.args.number).magic = c.slot_width-width.ensures ∙ ap slot_width (c.magic.ensures ∙ ap (λ (m : SpaceImage). m.magic) image) in
    let v = (nth_image images b.exporter).base + b.rva in
    let laid : c.lay_on.new.window ≡ laid_on c.args.start b.slot w v c.loop-slot.window =
    c.lay_on.ensures ∙ ap (λ (n : ℕ). laid_on c.args.start b.slot w n c.loop-slot.window) address in
    let wanted = byte_in c.args.self.now c.args.number in
    let left : Still wanted (in_slot_of w) c.args.start (b ∷ drop (i + 1) slots) c.loop-slot.window =
    subst (λ (bs : List Binding). Still wanted (in_slot_of w) c.args.start bs c.loop-slot.window) (at_drop_more (λ (bs : List Binding). bs) slots i no_binding c.loop-slot-test.true) c.loop-slot.invariant.still in
    record {
      len = ap length laid ∙ length-laid_on c.args.start b.slot w v c.loop-slot.window ∙ c.loop-slot.invariant.len;
      still =
          subst (Still wanted (in_slot_of w) c.args.start (drop (i + 1) slots)) (sym laid)
          (still_more wanted (in_slot_of w) c.args.start b.slot w v b (drop (i + 1) slots) c.loop-slot.window
          (λ r hit. is_in-true b.slot w r hit)
          (λ r low high. ap (λ (x : Content). byte_in x c.args.number r) (sym c.self.view_is)
          ∙ slot_at own c.self.invariant.fields_and_slots c.self.invariant.whole c.args.number here b r bound held.1 low (omega (arith, high, width)))
          left);
    }

pub returns : goal.returns
unfolding bytes_in
returns g c =
    still_none (byte_in c.args.self.now c.args.number) (in_slot_of c.slot_width-width.result) c.args.start (length c.args.window.now)
    (drop c.loop-slot.slot-index c.slots_in-slot-items.result.now) c.loop-slot.window
    (drop_all c.loop-slot.slot-index c.slots_in-slot-items.result.now c.loop-slot-test.false) c.loop-slot.invariant.len c.loop-slot.invariant.still
