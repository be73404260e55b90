-- A move rewrites the fields of one image and the slots bound to its exports; then the memory is that of the content with the new
-- base.
use Rattle.std.proofs.Common.{◌≡◌, ℕ, ◌+◌, ◌-◌, ◌%◌, ◌<◌, ◌≤◌, ◌⊎◌, List, [], length, get_or, refl, ap, ◌∙◌, sym, subst, arith, inl, inr}
use Rattle.std.specs.Prelude.{Option, Some, None, pos, ◌-ℤ◌, slice_set}
use Rattle.std.specs.List.{find, Contains}
use Rattle.std.proofs.lemmas.Bool.{cases_eq}
use Rattle.std.proofs.lemmas.List.{length-set, get_or-set_same, get_or-set_other}
use Rattle.pe_view.specs.Digits.{num_of_own_digits}
use Rattle.pe_view.specs.Number.{byte_of}
use Rattle.pe_tables.specs.declared.fixups.Fixup.{Fixup}
use Rattle.pe_set.specs.declared.binding.Binding.{Binding}
use Rattle.pe_head.specs.declared.optional.Magic.{Magic}
use Rattle.pe_space.specs.Number.{digit, number_in, shift}
use Rattle.pe_space.specs.Content.{SpaceImage, Content, nth_image, no_image, width_of, slot_width, in_field, in_slot, fixed_byte, byte_by, byte_in}
use Rattle.pe_space.specs.Moves.{moved}
use Rattle.pe_space.specs.Memory.{shifted_all, memory_of, address_of, bound}
use Rattle.pe_space.specs.FieldsAndSlots.{Each, SlotsApart, IsImage, IsSlot, FieldsAndSlotsApart, MemoryHolds}
use Rattle.pe_tables.proofs.Shifts.{shift_lt, shift-shift}
use Rattle.pe_space.proofs.Lists.{each_map, each_both, each_in, each_contains, pair_map}
use Rattle.pe_space.proofs.SlotsAndFields.{slot_byte, field_byte, value_of, slot_found, in_fields}
use Rattle.pe_space.proofs.Written.{InField, IsAt, InSlot, in_one, width_in, Fits, StillFields, StillSlots, laid_fields, laid_slots, bound_lengths, length-shifted_all}

-- ---- the content after a move
pub image_moved : (c : Content) (i base : ℕ) → i < length c.images → nth_image (moved c i base).images i ≡ record (nth_image c.images i) { base = base }
image_moved c i base lt = get_or-set_same c.images i (record (nth_image c.images i) { base = base }) no_image lt

pub image_kept : (c : Content) (i base j : ℕ) → (j ≡ i → ⊥) → nth_image (moved c i base).images j ≡ nth_image c.images j
image_kept c i base j ne = get_or-set_other c.images i j (record (nth_image c.images i) { base = base }) no_image ne

-- what does not depend on the base is unchanged
pub part_kept : {A : Type 0} (part : SpaceImage → A) (c : Content) (i base j : ℕ) → i < length c.images → ((image : SpaceImage) → part (record image { base = base }) ≡ part image) → part (nth_image (moved c i base).images j) ≡ part (nth_image c.images j)
part_kept part c i base j lt same = elim (cases_eq j i) [
  | inl here ↦ rw here (ap part (image_moved c i base lt) ∙ same (nth_image c.images i))
  | inr ne ↦ ap part (image_kept c i base j ne)
]

pub tied_moved : (c : Content) (i base : ℕ) → i < length c.images → FieldsAndSlotsApart c → FieldsAndSlotsApart (moved c i base)
tied_moved c i base lt fields_and_slots = record {
  images = λ j. image j;
  slots = each_map (IsSlot c.images) (IsSlot (moved c i base).images) c.bindings slot fields_and_slots.slots;
  apart = pair_map (SlotsApart c.images) (SlotsApart (moved c i base).images) c.bindings (λ b e apart same. rw (width b.image) (apart same)) fields_and_slots.apart;
}
  where
    size : (j : ℕ) → (nth_image (moved c i base).images j).size ≡ (nth_image c.images j).size
    size j = part_kept (λ (m : SpaceImage). m.size) c i base j lt (λ m. refl)

    width : (j : ℕ) → slot_width (nth_image (moved c i base).images j).magic ≡ slot_width (nth_image c.images j).magic
    width j = part_kept (λ (m : SpaceImage). slot_width m.magic) c i base j lt (λ m. refl)

    fixups : (j : ℕ) → (nth_image (moved c i base).images j).fixups ≡ (nth_image c.images j).fixups
    fixups j = part_kept (λ (m : SpaceImage). m.fixups) c i base j lt (λ m. refl)

    count : length (moved c i base).images ≡ length c.images
    count = length-set c.images i _

    image : (j : ℕ) → IsImage (nth_image (moved c i base).images j)
    image j = record { inside = rw (size j, fixups j) (fields_and_slots.images j).inside; apart = rw (fixups j) (fields_and_slots.images j).apart }

    slot : (b : Binding) → IsSlot c.images b → IsSlot (moved c i base).images b
    slot b s = record {
      image = rw count s.image;
      inside = rw (width b.image, size b.image) s.inside;
      off_fields = rw (width b.image, fixups b.image) s.off_fields;
      exporter = rw count s.exporter;
      target = rw (size b.exporter) s.target;
    }

-- the place of image j is in a slot that is bound to image i
pub record InEnding (c : Content) (i j r : ℕ) : Type 0 where
  pub slot : Binding
  pub bound : Contains c.bindings slot
  pub ends : slot.exporter ≡ i
  pub at : IsAt c.images j r slot

-- a move changes bytes only in a field of the image and in slots bound to its exports
pub changes : (c : Content) (i base : ℕ) → i < length c.images → (j r : ℕ)
    → (byte_in c j r ≡ byte_in (moved c i base) j r) ⊎ (((j ≡ i) × InField r (nth_image c.images i).fixups) ⊎ InEnding c i j r)
changes c i base lt j r = by_slot (find (in_slot j (nth_image c.images j).magic r) c.bindings) refl
  where
    magic : (nth_image (moved c i base).images j).magic ≡ (nth_image c.images j).magic
    magic = part_kept (λ (m : SpaceImage). m.magic) c i base j lt (λ m. refl)

    now : byte_in (moved c i base) j r ≡ byte_by (moved c i base) j r (find (in_slot j (nth_image c.images j).magic r) c.bindings)
    now = ap (λ (m : Magic). byte_by (moved c i base) j r (find (in_slot j m r) c.bindings)) magic

    outside : SpaceImage → ℕ
    outside m = fixed_byte m r (find (in_field r) m.fixups)

    by_field : (j ≡ i) → (o : Option Fixup) → find (in_field r) (nth_image c.images i).fixups ≡ o
        → (fixed_byte (nth_image c.images i) r o ≡ fixed_byte (record (nth_image c.images i) { base = base }) r o) ⊎ InField r (nth_image c.images i).fixups
    by_field here None h = inl refl
    by_field here (Some f) h = inr (in_fields r (nth_image c.images i).fixups f h)

    by_slot : (o : Option Binding) → find (in_slot j (nth_image c.images j).magic r) c.bindings ≡ o
        → (byte_in c j r ≡ byte_in (moved c i base) j r) ⊎ (((j ≡ i) × InField r (nth_image c.images i).fixups) ⊎ InEnding c i j r)
    by_slot None h = elim (cases_eq j i) [
      | inl here ↦ elim (by_field here (find (in_field r) (nth_image c.images i).fixups) refl) [
        | inl same ↦ inl (ap (byte_by c j r) h ∙ (ap (λ (k : ℕ). outside (nth_image c.images k)) here ∙ same ∙ sym (ap outside (ap (λ (k : ℕ). nth_image (moved c i base).images k) here ∙ image_moved c i base lt))) ∙ sym (now ∙ ap (byte_by (moved c i base) j r) h))
        | inr in_f ↦ inr (inl (here, in_f))
      ]
      | inr ne ↦ inl (ap (byte_by c j r) h ∙ ap (λ (m : SpaceImage). fixed_byte m r (find (in_field r) m.fixups)) (sym (image_kept c i base j ne)) ∙ sym (now ∙ ap (byte_by (moved c i base) j r) h))
    ]
    by_slot (Some b) h = elim (cases_eq b.exporter i) [
      | inl ends ↦
          let found = slot_found c.images j r c.bindings b h in
          inr (inr (record { slot = b; bound = found.0; ends = ends; at = found.1 }))
      | inr ne ↦ inl (ap (byte_by c j r) h ∙ ap (λ (m : SpaceImage). digit (m.base + b.rva) (r - b.slot)) (sym (image_kept c i base b.exporter ne)) ∙ sym (now ∙ ap (byte_by (moved c i base) j r) h))
    ]

-- these slots are those bound to image i
pub record AreEnding (c : Content) (i : ℕ) (bs : List Binding) : Type 0 where
  pub held : (b : Binding) → Contains bs b → Contains c.bindings b × (b.exporter ≡ i)
  pub all : (b : Binding) → Contains c.bindings b → b.exporter ≡ i → Contains bs b

-- the memories after a move
abbrev pub moved_memory : Content → ℕ → ℕ → List Binding → List (List ℕ) → List (List ℕ)
moved_memory c i base bs ms =
    bound (moved c i base).images bs
    (slice_set ms i (shifted_all (pos base -ℤ pos (nth_image c.images i).base) (nth_image c.images i).fixups (memory_of ms i)))

-- the memories after a move are those of the content after the move
pub laid_moved : (c : Content) (i base : ℕ) (bs : List Binding) (ms : List (List ℕ)) → i < length c.images → base % 65536 ≡ 0 → (nth_image c.images i).base % 65536 ≡ 0 → AreEnding c i bs → FieldsAndSlotsApart c → MemoryHolds c ms → MemoryHolds (moved c i base) (moved_memory c i base bs ms)
laid_moved c i base bs ms lt aligned was_aligned ending fields_and_slots memory_holds = record {
  count = ends.0 ∙ length-set ms i _ ∙ memory_holds.count ∙ sym (length-set c.images i _);
  lengths = λ j. ends.1 j ∙ size_first j ∙ sym (size j);
  each = λ j r small. bytes j r (rw (← size j) small);
}
  where
    image : SpaceImage
    image = nth_image c.images i

    size : (j : ℕ) → (nth_image (moved c i base).images j).size ≡ (nth_image c.images j).size
    size j = part_kept (λ (m : SpaceImage). m.size) c i base j lt (λ m. refl)

    tied_after : FieldsAndSlotsApart (moved c i base)
    tied_after = tied_moved c i base lt fields_and_slots

    old : List ℕ
    old = memory_of ms i

    in_old : Each (λ (f : Fixup). f.field + width_of f.kind ≤ length old) image.fixups
    in_old = rw (memory_holds.lengths i) (fields_and_slots.images i).inside

    first : List ℕ
    first = shifted_all (pos base -ℤ pos image.base) image.fixups old

    next : List (List ℕ)
    next = slice_set ms i first

    here : i < length ms
    here = rw memory_holds.count lt

    size_first : (j : ℕ) → length (memory_of next j) ≡ (nth_image c.images j).size
    size_first j = elim (cases_eq j i) [
      | inl same ↦ rw same (ap length (get_or-set_same ms i first [] here) ∙ length-shifted_all (pos base -ℤ pos image.base) image.fixups old in_old ∙ memory_holds.lengths i)
      | inr ne ↦ ap length (get_or-set_other ms i j first [] ne) ∙ memory_holds.lengths j
    ]

    after : List SpaceImage
    after = (moved c i base).images

    width : (j : ℕ) → slot_width (nth_image after j).magic ≡ slot_width (nth_image c.images j).magic
    width j = part_kept (λ (m : SpaceImage). slot_width m.magic) c i base j lt (λ m. refl)

    -- what holds of each bound slot holds of these
    of_ending : (P : Binding → Type 0) → Each P c.bindings → Each P bs
    of_ending P all = each_in P bs (λ b held. each_contains P c.bindings b all (ending.held b held).0)

    fits : Each (Fits after next) bs
    fits = of_ending (Fits after next) (each_map (IsSlot after) (Fits after next) c.bindings (λ b slot. record { image = rw (length-set ms i first, memory_holds.count, ← length-set c.images i (record image { base = base })) slot.image; inside = rw (size_first b.image, ← size b.image) slot.inside }) tied_after.slots)

    ends : (length (bound after bs next) ≡ length next) × ((j : ℕ) → length (memory_of (bound after bs next) j) ≡ length (memory_of next j))
    ends = bound_lengths after bs next fits

    -- a place that a move changes in a slot is in one of these
    in_ending : (j r : ℕ) → InEnding c i j r → InSlot after j r bs
    in_ending j r in_s =
        let b = in_s.slot in
        let high = in_s.at.high in
        let w = width b.image in
        in_one after j r bs b (ending.all b in_s.bound in_s.ends) (record { image = in_s.at.image; low = in_s.at.low; high = omega arith })

    held : Each (λ (f : Fixup). number_in old f.field (width_of f.kind) ≡ value_of image f) image.fixups
    held = each_map _ _ image.fixups
        (λ f both. num_of_own_digits (byte_of old) f.field (width_of f.kind) (value_of image f) (shift_lt _ f.kind _)
        (λ k small. (let inside = both.0 in let back : f.field + k - f.field ≡ k = omega arith in
        memory_holds.each i (f.field + k) (omega arith) ∙ both.1 (f.field + k) (omega arith) (omega arith) ∙ ap (digit (value_of image f)) back)))
        (each_both (λ (f : Fixup). f.field + width_of f.kind ≤ image.size) (λ (f : Fixup). (r : ℕ) → f.field ≤ r → r < f.field + width_of f.kind → byte_in c i r ≡ digit (value_of image f) (r - f.field)) image.fixups (fields_and_slots.images i).inside (field_byte c i fields_and_slots))

    wanted_fields : Each (λ (f : Fixup). (r : ℕ) → f.field ≤ r → r < f.field + width_of f.kind → byte_in (moved c i base) i r ≡ digit (shift f.kind (value_of image f) (pos base -ℤ pos image.base)) (r - f.field)) image.fixups
    wanted_fields = each_map (λ (f : Fixup). (r : ℕ) → f.field ≤ r → r < f.field + width_of f.kind → byte_in (moved c i base) i r ≡ digit (value_of (record image { base = base }) f) (r - f.field)) _ image.fixups
        (λ f is r low high. is r low high ∙ ap (λ (v : ℕ). digit v (r - f.field)) (sym (shift-shift (number_in image.plain f.field (width_of f.kind)) f.kind image.image_base image.base base was_aligned aligned)))
        (subst (λ (m : SpaceImage). Each (λ (f : Fixup). (r : ℕ) → f.field ≤ r → r < f.field + width_of f.kind → byte_in (moved c i base) i r ≡ digit (value_of m f) (r - f.field)) m.fixups) (image_moved c i base lt) (field_byte (moved c i base) i tied_after))

    still_fields : StillFields (byte_in (moved c i base) i) (λ r. InSlot after i r bs) image.size image.fixups old
    still_fields r small = elim (changes c i base lt i r) [
      | inl same ↦ inl (memory_holds.each i r small ∙ same)
      | inr (inl in_f) ↦ inr (inl in_f.1)
      | inr (inr in_s) ↦ inr (inr (in_ending i r in_s))
    ]

    fields : (r : ℕ) → r < image.size → (get_or first r 0 ≡ byte_in (moved c i base) i r) ⊎ InSlot after i r bs
    fields = laid_fields (pos base -ℤ pos image.base) image.size (byte_in (moved c i base) i) (λ r. InSlot after i r bs) (value_of image) image.fixups old in_old (fields_and_slots.images i).apart held wanted_fields still_fields

    still_slots : StillSlots after (byte_in (moved c i base)) (λ j. (nth_image c.images j).size) bs next
    still_slots j r small = elim (cases_eq j i) [
      | inl same ↦ subst (λ (k : ℕ). (r : ℕ) → r < (nth_image c.images k).size → (get_or (memory_of next k) r 0 ≡ byte_in (moved c i base) k r) ⊎ InSlot after k r bs) (sym same)
          (λ r small. rw (get_or-set_same ms i first [] here) (fields r small)) r small
      | inr ne ↦ elim (changes c i base lt j r) [
        | inl kept ↦ inl (ap (λ (m : List ℕ). get_or m r 0) (get_or-set_other ms i j first [] ne) ∙ memory_holds.each j r small ∙ kept)
        | inr (inl in_f) ↦ absurd (ne in_f.0)
        | inr (inr in_s) ↦ inr (in_ending j r in_s)
      ]
    ]

    wanted_slots : Each (λ (b : Binding). (r : ℕ) → b.slot ≤ r → r < b.slot + width_in after b → byte_in (moved c i base) b.image r ≡ digit (address_of after b) (r - b.slot)) bs
    wanted_slots = of_ending _ (slot_byte (moved c i base) tied_after)

    bytes : (j r : ℕ) → r < (nth_image c.images j).size → get_or (memory_of (bound after bs next) j) r 0 ≡ byte_in (moved c i base) j r
    bytes = laid_slots after (byte_in (moved c i base)) (λ j. (nth_image c.images j).size) bs next fits wanted_slots still_slots
