use Rattle.std.proofs.Common.{rules, ◌≡◌, ◌∙◌, ◌+◌, ◌<◌, ◌≤◌, ◌^◌, ℕ, List, get_or, length, arith, ap, sym, refl}
use Rattle.pe_set.specs.declared.binding.Binding.{Binding}
use Rattle.pe_space.specs.Content.{SpaceImage, nth_image}
use Rattle.pe_space.specs.FieldsAndSlots.{Each, IsSlot}
use Rattle.pe_space.specs.InMemory.{InMemory, images_of, memories_of}
use Rattle.pe_space.specs.Memory.{address_of, bound}
use Rattle.pe_space.proofs.Lists.{each_at}
use Rattle.pe_space.proofs.MemoryWrites.{image_read, in_list, bind_step}
use Rattle.pe_space.proofs.mapped_space.bind.Goals as goal

abbrev no_slot : Binding
no_slot = record { image = 0; slot = 0; exporter = 0; rva = 0 }

-- the slot at an index belongs to one of these images
slot_at : (first hs : List InMemory) (slots : List Binding) (i : ℕ) → images_of hs ≡ images_of first → Each (IsSlot (images_of first)) slots → i < length slots
    → IsSlot (images_of hs) (get_or slots i no_slot)
slot_at first hs slots i same each within = rw same (each_at (IsSlot (images_of first)) slots i no_slot each within)

-- the address of its export is the sum of two numbers
stands : (first hs : List InMemory) (h : InMemory) (b : Binding) (base rva : ℕ) → images_of hs ≡ images_of first → IsSlot (images_of hs) b → h ≡ get_or hs b.exporter h
    → base ≡ (get_or hs b.exporter h).image.base → rva ≡ b.rva → base + rva ≡ address_of (images_of first) b
stands first hs h b base rva same slot is of_base of_rva =
    let within = in_list hs hs (images_of hs) b.exporter refl refl slot.exporter in
    let base_is : base ≡ (nth_image (images_of first) b.exporter).base =
    of_base ∙ ap (λ (x : InMemory). x.image.base) (sym is) ∙ ap (λ (image : SpaceImage). image.base) (image_read hs b.exporter h within is)
    ∙ ap (λ (images : List SpaceImage). (nth_image images b.exporter).base) same in
    rw (base_is, of_rva) refl

-- which fits into an address
fits : (images : List SpaceImage) (b : Binding) (address : ℕ) → IsSlot images b → ((j : ℕ) → (nth_image images j).base + (nth_image images j).size ≤ 2 ^ 64)
    → address ≡ address_of images b → address < 2 ^ 64
fits images b address slot room is = let end = room b.exporter in let target = slot.target in omega arith

pub bounds-images-slot : goal.bounds-images-slot
bounds-images-slot g c =
    let slot = slot_at c.args.images.now c.loop-slot.images c.args.slots.now c.loop-slot.slot-index c.loop-slot.invariant.images c.requires.slots c.loop-slot-test.true in
    in_list c.loop-slot.images c.loop-slot.images (images_of c.loop-slot.images) _ refl refl slot.exporter

pub overflow_add-address : goal.overflow_add-address
overflow_add-address g c =
    let first = c.args.images.now in
    let b = get_or c.args.slots.now c.loop-slot.slot-index no_slot in
    let slot = each_at (IsSlot (images_of first)) c.args.slots.now c.loop-slot.slot-index no_slot c.requires.slots c.loop-slot-test.true in
    let own = slot_at first c.loop-slot.images c.args.slots.now c.loop-slot.slot-index c.loop-slot.invariant.images c.requires.slots c.loop-slot-test.true in
    let at = stands first c.loop-slot.images c.index-images-slot.result b _ _ c.loop-slot.invariant.images own c.index-images-slot.is c.base.ensures c.from.ensures in
    let below : c.base.result + c.from.result < 2 ^ 64 = fits (images_of first) b _ slot c.requires.room at in
    omega arith

pub put_address-requires : goal.put_address-requires
put_address-requires g c = slot_at c.args.images.now c.loop-slot.images c.args.slots.now c.loop-slot.slot-index c.loop-slot.invariant.images c.requires.slots c.loop-slot-test.true

pub loop-slot-preserved : goal.loop-slot-preserved
loop-slot-preserved g c =
    let first = c.args.images.now in
    let hs = c.loop-slot.images in
    let i : ℕ = c.loop-slot.slot-index in
    let b = get_or c.args.slots.now i no_slot in
    let own = slot_at first hs c.args.slots.now i c.loop-slot.invariant.images c.requires.slots c.loop-slot-test.true in
    let at = stands first hs c.index-images-slot.result b _ _ c.loop-slot.invariant.images own c.index-images-slot.is c.base.ensures c.from.ensures in
    let step = bind_step (images_of first) hs c.put_address.new.images i c.args.slots.now no_slot _ (bound (images_of first) c.args.slots.now (memories_of first))
    c.loop-slot-test.true c.loop-slot.invariant.images at c.put_address.ensures.images c.put_address.ensures.memories c.loop-slot.invariant.rest in
    record { images = step.0; rest = step.1 }

pub offset_bounds-images-slot : goal.offset_bounds-images-slot
offset_bounds-images-slot g c =
    let first = c.args.images.now in
    let slot = each_at (IsSlot (images_of first)) c.args.slots.now c.loop-slot.slot-index no_slot c.requires.slots c.loop-slot-test.true in
    let within : (get_or c.args.slots.now c.loop-slot.slot-index no_slot).exporter < length first = in_list first first (images_of first) _ refl refl slot.exporter in
    search (rules, within)
