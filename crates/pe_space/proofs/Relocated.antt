-- The memory of a new space.
use Rattle.std.proofs.Common.{◌≡◌, ℕ, ◌+◌, ◌-◌, ◌<◌, ◌≤◌, ◌⊎◌, List, length, map, get_or, refl, ap, ◌∙◌, sym, subst, inl, inr}
use Rattle.std.specs.Prelude.{Option, Some, None, pos, ◌-ℤ◌}
use Rattle.std.specs.List.{find}
use Rattle.pe_tables.specs.declared.fixups.Fixup.{Fixup}
use Rattle.pe_set.specs.declared.binding.Binding.{Binding}
use Rattle.pe_space.specs.Number.{digit, number_in}
use Rattle.pe_space.specs.Content.{SpaceImage, Content, placement_of, nth_image, width_of, in_field, in_slot, fixed_byte, byte_by, byte_in}
use Rattle.pe_space.specs.Memory.{shifted_all, memory_of, address_of, bound}
use Rattle.pe_space.specs.FieldsAndSlots.{Each, IsSlot, FieldsAndSlotsApart, MemoryHolds}
use Rattle.pe_space.specs.ByBase.{IsByBase}
use Rattle.pe_space.specs.MappedSpaceView.{SlotsUnbound, mapped_content, MappedSpaceHolds}
use Rattle.pe_space.specs.Ordered.{IsOrdered, exporter_of}
use Rattle.pe_space.specs.declared.by_base.NumberAt.{NumberAt}
use Rattle.pe_space.specs.InMemory.{InMemory, images_of, memories_of}
use Rattle.pe_space.specs.ImagesApart.{ImagesApart}
use Rattle.pe_space.proofs.Lists.{each_map, each_all}
use Rattle.pe_space.proofs.Written.{InField, InSlot, width_in, Fits, StillFields, laid_fields, in_one, laid_slots, bound_lengths, length-shifted_all}
use Rattle.pe_space.proofs.SlotsAndFields.{slot_byte, field_byte, slot_found, in_fields}

pub laid_fresh : (c : Content) (ms : List (List ℕ)) → FieldsAndSlotsApart c → SlotsUnbound c ms → MemoryHolds c (bound c.images c.bindings ms)
laid_fresh c ms fields_and_slots fresh = record {
  count = ends.0 ∙ fresh.count;
  lengths = λ j. ends.1 j ∙ size j;
  each = laid_slots c.images (byte_in c) (λ j. (nth_image c.images j).size) c.bindings ms fits wanted_slots (λ j r small. subst (λ (m : List ℕ). (get_or m r 0 ≡ byte_in c j r) ⊎ InSlot c.images j r c.bindings) (sym (fresh.fields j)) (fields j r small));
}
  where
    by : ℕ → SpaceImage
    by j = nth_image c.images j

    in_plain : (j : ℕ) → Each (λ (f : Fixup). f.field + width_of f.kind ≤ length (nth_image c.images j).plain) (nth_image c.images j).fixups
    in_plain j = rw (fresh.whole j) (fields_and_slots.images j).inside

    size : (j : ℕ) → length (memory_of ms j) ≡ (nth_image c.images j).size
    size j = ap length (fresh.fields j) ∙ length-shifted_all _ (nth_image c.images j).fixups (nth_image c.images j).plain (in_plain j) ∙ fresh.whole j

    fits : Each (Fits c.images ms) c.bindings
    fits = each_map (IsSlot c.images) (Fits c.images ms) c.bindings (λ b slot. record { image = rw fresh.count slot.image; inside = rw (size b.image) slot.inside }) fields_and_slots.slots

    ends : (length (bound c.images c.bindings ms) ≡ length ms) × ((j : ℕ) → length (memory_of (bound c.images c.bindings ms) j) ≡ length (memory_of ms j))
    ends = bound_lengths c.images c.bindings ms fits

    wanted_slots : Each (λ (b : Binding). (r : ℕ) → b.slot ≤ r → r < b.slot + width_in c.images b → byte_in c b.image r ≡ digit (address_of c.images b) (r - b.slot)) c.bindings
    wanted_slots = slot_byte c fields_and_slots

    by_field : (j r : ℕ) → find (in_slot j (nth_image c.images j).magic r) c.bindings ≡ None → (o : Option Fixup) → find (in_field r) (nth_image c.images j).fixups ≡ o
        → (get_or (nth_image c.images j).plain r 0 ≡ byte_in c j r) ⊎ (InField r (nth_image c.images j).fixups ⊎ InSlot c.images j r c.bindings)
    by_field j r free None h = inl (sym (ap (byte_by c j r) free ∙ ap (fixed_byte (nth_image c.images j) r) h))
    by_field j r free (Some f) h = inr (inl (in_fields r (nth_image c.images j).fixups f h))

    by_slot : (j r : ℕ) → (o : Option Binding) → find (in_slot j (nth_image c.images j).magic r) c.bindings ≡ o
        → (get_or (nth_image c.images j).plain r 0 ≡ byte_in c j r) ⊎ (InField r (nth_image c.images j).fixups ⊎ InSlot c.images j r c.bindings)
    by_slot j r None h = by_field j r h (find (in_field r) (nth_image c.images j).fixups) refl
    by_slot j r (Some b) h =
        let at = slot_found c.images j r c.bindings b h in
        inr (inr (in_one c.images j r c.bindings b at.0 at.1))

    still : (j : ℕ) → StillFields (byte_in c j) (λ r. InSlot c.images j r c.bindings) (nth_image c.images j).size (nth_image c.images j).fixups (nth_image c.images j).plain
    still j r small = by_slot j r (find (in_slot j (nth_image c.images j).magic r) c.bindings) refl

    fields : (j r : ℕ) → r < (nth_image c.images j).size → (get_or (shifted_all (pos (nth_image c.images j).base -ℤ pos (nth_image c.images j).image_base) (nth_image c.images j).fixups (nth_image c.images j).plain) r 0 ≡ byte_in c j r) ⊎ InSlot c.images j r c.bindings
    fields j = laid_fields (pos (nth_image c.images j).base -ℤ pos (nth_image c.images j).image_base) (nth_image c.images j).size (byte_in c j) (λ r. InSlot c.images j r c.bindings)
        (λ f. number_in (nth_image c.images j).plain f.field (width_of f.kind)) (nth_image c.images j).fixups (nth_image c.images j).plain (in_plain j) (fields_and_slots.images j).apart
        (each_all _ (nth_image c.images j).fixups (λ f. refl)) (field_byte c j fields_and_slots) (still j)

pub kept_fresh : (hs first after : List InMemory) (order : List NumberAt) (bs slots lent : List Binding) → FieldsAndSlotsApart (mapped_content hs bs) → ImagesApart (mapped_content hs bs) → SlotsUnbound (mapped_content hs bs) (memories_of hs)
    → IsByBase (map placement_of (images_of hs)) order → IsOrdered exporter_of bs slots
    → first ≡ hs → lent ≡ bs → images_of after ≡ images_of first → memories_of after ≡ bound (images_of first) lent (memories_of first)
    → MappedSpaceHolds after order bs slots
kept_fresh hs first after order bs slots lent fields_and_slots placed fresh by_base by_exporter first_is lent_is same written =
    let images : images_of after ≡ images_of hs = same ∙ ap images_of first_is in
    let content : mapped_content after bs ≡ mapped_content hs bs = ap (λ (x : List SpaceImage). record { images = x; bindings = bs }) images in
    let memory : memories_of after ≡ bound (images_of hs) bs (memories_of hs) =
    written ∙ ap (λ (x : List InMemory). bound (images_of x) lent (memories_of x)) first_is
    ∙ ap (λ (x : List Binding). bound (images_of hs) x (memories_of hs)) lent_is in
    record {
      fields_and_slots = rw content fields_and_slots;
      placed = rw content placed;
      memory_holds = rw (content, memory) (laid_fresh (mapped_content hs bs) (memories_of hs) fields_and_slots fresh);
      whole = subst (λ (x : List SpaceImage). (j : ℕ) → length (nth_image x j).plain ≡ (nth_image x j).size) (sym images) fresh.whole;
      by_base = subst (λ (x : List SpaceImage). IsByBase (map placement_of x) order) (sym images) by_base;
      by_exporter = by_exporter;
    }
