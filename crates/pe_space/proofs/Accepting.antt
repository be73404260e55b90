-- Facts about an accepted set that a space needs: its fields and slots, and the bases of its images.
use Rattle.std.proofs.Common.{◌≡◌, ◌∙◌, ◌+◌, ◌%◌, ◌<◌, ◌≤◌, ◌^◌, ℕ, zero, suc, List, [], ◌∷◌, length, map, refl, sym, ap, subst, Some, arith, inl, inr}
use Rattle.std.specs.Prelude.{pos, ◌-ℤ◌, slice_get, AllPairs, slice_index_or}
use Rattle.std.proofs.lemmas.Bool.{cases_lt}
use Rattle.std.proofs.lemmas.List.{length-map}
use Rattle.std.proofs.lemmas.List.FromFn.{length-map-range_with_len}
use Rattle.pe_tables.specs.Fixups.{width_of, range_of}
use Rattle.pe_ranges.specs.Ranges.{AreApart}
use Rattle.pe_tables.specs.declared.fixups.Fixup.{Fixup}
use Rattle.pe_set.specs.Bindings.{bindings_of}
use Rattle.pe_set.specs.Placement.{address_limit}
use Rattle.pe_set.specs.Set.{Module}
use Rattle.pe_set.specs.Sound as set
use Rattle.pe_set.specs.Sound.{IsSound, IsSoundImage, IsSoundBinding}
use Rattle.pe_set.specs.declared.binding.Binding.{Binding}
use Rattle.pe_space.specs.Content.{SpaceImage, nth_image, slot_width}
use Rattle.pe_space.specs.SetContent.{image_content, laid_out}
use Rattle.pe_space.specs.Relocated.{relocated_of, FieldsFit}
use Rattle.pe_space.specs.Memory.{shifted_all, memory_of}
use Rattle.pe_space.specs.InMemory.{InMemory, images_of, memories_of}
use Rattle.pe_space.specs.MappedSpaceView.{mapped_content, SlotsUnbound}
use Rattle.pe_space.specs.ImagesApart.{ImagesApart}
use Rattle.pe_space.specs.FieldsAndSlots.{Each, Apart, FieldsApart, IsImage, IsSlot, FieldsAndSlotsApart, SlotsApart}
use Rattle.pe_space.proofs.Images.{module_got, past_end, image_got, got_below, all_got, pair_got, each_of_all, pairs_of_all}
use Rattle.pe_space.proofs.Lists.{each_map}

flip : (a n b m : ℕ) → Apart a n b m → Apart b m a n
flip a n b m (inl before) = inr before
flip a n b m (inr after) = inl after

module _ (s : List Module) (sound : IsSound s) where
  abbrev images : List SpaceImage
  images = map image_content s

  image_at : (j : ℕ) → IsImage (nth_image images j)
  image_at j = elim (cases_lt j (length s)) [
    | inl lt ↦
        (let got = module_got s j lt in
        let fine = all_got IsSoundImage s j got.0 sound.images got.1 in
        subst IsImage (sym got.2) (record {
          inside = each_of_all (λ (f : Fixup). f.field + width_of f.kind ≤ got.0.image.size) got.0.fixups fine.inside;
          apart = pairs_of_all FieldsApart got.0.fixups fine.apart;
        }))
    | inr past ↦ subst IsImage (sym (past_end s j past)) (record { inside = tt; apart = tt })
  ]

  slot_at : (b : Binding) → IsSoundBinding s b → IsSlot images b
  slot_at b fine =
      let count = length-map s image_content in
      let importer = got_below s b.image fine.importer fine.imports in
      let exporter = got_below s b.exporter fine.exporter fine.exports in
      let here = image_got s b.image fine.importer fine.imports in
      record {
        image = omega (arith, count, importer);
        inside = subst (λ (g : SpaceImage). b.slot + slot_width g.magic ≤ g.size) (sym here) fine.inside;
        off_fields = subst (λ (g : SpaceImage). Each (λ (f : Fixup). Apart b.slot (slot_width g.magic) f.field (width_of f.kind)) g.fixups) (sym here)
            (each_of_all (λ (f : Fixup). AreApart (set.slot_of fine.importer b) (range_of f)) fine.importer.fixups fine.off_fields);
        exporter = omega (arith, count, exporter);
        target = subst (λ (g : SpaceImage). b.rva < g.size) (sym (image_got s b.exporter fine.exporter fine.exports)) fine.target;
      }

  slots_apart : AllPairs (SlotsApart images) (bindings_of s)
  slots_apart = λ i j d lt below same.
      let b : Binding = slice_index_or (bindings_of s) i d in
      let e : Binding = slice_index_or (bindings_of s) j d in
      let fine = sound.slots i d (omega arith) in
      subst (λ (g : SpaceImage). Apart b.slot (slot_width g.magic) e.slot (slot_width g.magic)) (sym (image_got s b.image fine.importer fine.imports))
      (sound.slots_apart i j d lt below fine.importer fine.imports same)

  pub fields_and_slots : FieldsAndSlotsApart (laid_out s)
  unfolding laid_out
  fields_and_slots = record {
    images = image_at;
    slots = each_map (IsSoundBinding s) (IsSlot images) (bindings_of s) slot_at (each_of_all (IsSoundBinding s) (bindings_of s) sound.slots);
    apart = pairs_of_all (SlotsApart images) (bindings_of s) slots_apart;
  }

  aligned_at : (j : ℕ) → (nth_image images j).base % 65536 ≡ 0
  aligned_at j = elim (cases_lt j (length s)) [
    | inl lt ↦
        (let got = module_got s j lt in
        subst (λ (g : SpaceImage). g.base % 65536 ≡ 0) (sym got.2) (all_got (λ (m : Module). m.base % 65536 ≡ 0) s j got.0 sound.aligned got.1))
    | inr past ↦ subst (λ (g : SpaceImage). g.base % 65536 ≡ 0) (sym (past_end s j past)) refl
  ]

  room_at : (j : ℕ) → (nth_image images j).base + (nth_image images j).size ≤ address_limit (nth_image images j).magic
  room_at j = elim (cases_lt j (length s)) [
    | inl lt ↦
        (let got = module_got s j lt in
        subst (λ (g : SpaceImage). g.base + g.size ≤ address_limit g.magic) (sym got.2) (all_got (λ (m : Module). m.base + m.image.size ≤ address_limit m.magic) s j got.0 sound.room got.1))
    | inr past ↦ subst (λ (g : SpaceImage). g.base + g.size ≤ address_limit g.magic) (sym (past_end s j past)) (omega arith)
  ]

  apart_at : (i j : ℕ) → i < length s → j < length s → (i ≡ j → ⊥) → Apart (nth_image images i).base (nth_image images i).size (nth_image images j).base (nth_image images j).size
  apart_at i j lt_i lt_j ne =
      let n = module_got s i lt_i in
      let m = module_got s j lt_j in
      let Stands : Module → Module → Type 0 = (λ (m other : Module). AreApart (m.base, m.image.size) (other.base, other.image.size)) in
      let goes : Apart n.0.base n.0.image.size m.0.base m.0.image.size = elim (cases_lt i j) [
        | inl before ↦ pair_got Stands s i j n.0 m.0 sound.apart before n.1 m.1
        | inr not_before ↦ flip m.0.base m.0.image.size n.0.base n.0.image.size (pair_got Stands s j i m.0 n.0 sound.apart (omega (arith, ne)) m.1 n.1)
      ] in
      subst (λ (x : SpaceImage). Apart x.base x.size (nth_image images j).base (nth_image images j).size) (sym n.2) (subst (λ (x : SpaceImage). Apart n.0.base n.0.image.size x.base x.size) (sym m.2) goes)

  some_at : (j : ℕ) → j < length s → 0 < (nth_image images j).size
  some_at j lt =
      let got = module_got s j lt in
      subst (λ (g : SpaceImage). 0 < g.size) (sym got.2) (all_got IsSoundImage s j got.0 sound.images got.1).some

  pub placed : ImagesApart (laid_out s)
  unfolding laid_out
  placed =
      let count = length-map s image_content in
      let few = sound.few in
      let slots = sound.few_slots in
      record {
        few = omega (arith, count, few);
        few_slots = omega (arith, slots);
        aligned = aligned_at;
        room = room_at;
        some = λ j lt. some_at j (omega (arith, count, lt));
        apart = λ i j lt_i lt_j ne. apart_at i j (omega (arith, count, lt_i)) (omega (arith, count, lt_j)) ne;
      }

  small_from : (j : ℕ) → (nth_image images j).size ≤ 2 ^ 31
  small_from j = elim (cases_lt j (length s)) [
    | inl lt ↦
        (let got = module_got s j lt in
        subst (λ (g : SpaceImage). g.size ≤ 2 ^ 31) (sym got.2) (all_got IsSoundImage s j got.0 sound.images got.1).small)
    | inr past ↦ subst (λ (g : SpaceImage). g.size ≤ 2 ^ 31) (sym (past_end s j past)) (omega arith)
  ]

  -- each image has at most 2^31 bytes
  pub small : (j : ℕ) → (nth_image (laid_out s).images j).size ≤ 2 ^ 31
  unfolding laid_out
  small = small_from

  fit_of : (m : Module) → IsSoundImage m → FieldsFit m
  fit_of m fine =
      let few = fine.few in
      record { inside = each_of_all (λ (f : Fixup). f.field + width_of f.kind ≤ m.image.size) m.fixups fine.inside; few = omega (arith, few) }

  -- the fields of each image fit
  pub fit : Each FieldsFit s
  fit = each_map IsSoundImage FieldsFit s fit_of (each_of_all IsSoundImage s sound.images)

  -- the fields of each image are inside it
  pub fields_inside : (j : ℕ) (m : Module) → slice_get s j ≡ Some m → Each (λ (f : Fixup). f.field + width_of f.kind ≤ m.image.size) m.fixups
  fields_inside j m at = each_of_all (λ (f : Fixup). f.field + width_of f.kind ≤ m.image.size) m.fixups (all_got IsSoundImage s j m sound.images at).inside

-- ---- images that have just been placed
image_fresh : (m : Module) → (relocated_of m).image ≡ image_content m
image_fresh m = ap (λ (n : ℕ). record (image_content m) { size = n }) (length-map-range_with_len m.image.byte 0 m.image.size)

pub images_fresh : (s : List Module) → images_of (map relocated_of s) ≡ map image_content s
images_fresh [] = refl
images_fresh (m ∷ s) = ap (λ (i : SpaceImage). i ∷ images_of (map relocated_of s)) (image_fresh m) ∙ ap (λ (is : List SpaceImage). image_content m ∷ is) (images_fresh s)

pub content_fresh : (s : List Module) → mapped_content (map relocated_of s) (bindings_of s) ≡ laid_out s
unfolding laid_out
content_fresh s = ap (λ (is : List SpaceImage). record { images = is; bindings = bindings_of s }) (images_fresh s)

fresh_whole : (s : List Module) (j : ℕ) → length (nth_image (images_of (map relocated_of s)) j).plain ≡ (nth_image (images_of (map relocated_of s)) j).size
fresh_whole [] j = refl
fresh_whole (m ∷ s) zero = refl
fresh_whole (m ∷ s) (suc j) = fresh_whole s j

fresh_fields : (s : List Module) (j : ℕ) → (let i : SpaceImage = nth_image (images_of (map relocated_of s)) j in memory_of (memories_of (map relocated_of s)) j ≡ shifted_all (pos i.base -ℤ pos i.image_base) i.fixups i.plain)
fresh_fields [] j = refl
fresh_fields (m ∷ s) zero = refl
fresh_fields (m ∷ s) (suc j) = fresh_fields s j

pub fresh : (s : List Module) → SlotsUnbound (mapped_content (map relocated_of s) (bindings_of s)) (memories_of (map relocated_of s))
fresh s = record {
  count = length-map (map relocated_of s) (λ (h : InMemory). h.memory) ∙ sym (length-map (map relocated_of s) (λ (h : InMemory). h.image));
  whole = fresh_whole s;
  fields = fresh_fields s;
}
