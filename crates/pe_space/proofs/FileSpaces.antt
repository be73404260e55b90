-- Images over files: which of them contains an address, the bytes of windows, and the state after an accepted move.
use Rattle.std.proofs.Common.{◌≡◌, ℕ, zero, suc, ◌+◌, ◌-◌, ◌<◌, ◌≤◌, ◌^◌, List, length, map, get_or, refl, ap, ◌∙◌, sym, subst, arith, [], ◌∷◌, ◌++◌, take, length-append, inl, inr}
use Rattle.std.specs.Prelude.{Option, Some, None, unwrap_or, Ok, slice_set}
use Rattle.std.specs.List.{range_with_len}
use Rattle.std.proofs.lemmas.Bool.{cases_eq}
use Rattle.std.proofs.lemmas.List.{get_or_default, get_or-set_same, get_or-set_other, length-set, length-take-le}
use Rattle.std.proofs.lemmas.List.Sums.{count_by_more_yes, count_by_more_no, count_by-le-length}
use borrow.Author.Tests.{eq-eqb, ne_eqb}
use Rattle.pe_view.specs.Faults.{first_standing}
use Rattle.pe_set.specs.Placement.{Placement, placement_at, move_tests}
use Rattle.pe_set.specs.declared.binding.Binding.{Binding}
use Rattle.pe_space.specs.Unbound.{unbound}
use Rattle.pe_space.specs.Content.{SpaceImage, Content, placement_of, nth_image, no_image, placed_from, holder_from, byte_at, byte_held, byte_in, bytes_from, window_image}
use Rattle.pe_space.specs.ByBase.{IsByBase, StandApart}
use Rattle.pe_space.specs.FileSpaceView.{file_content, SlotCounts, FileSpaceHolds}
use Rattle.pe_space.specs.Memory.{ends_in}
use Rattle.pe_space.specs.Moves.{move_fault, moved}
use Rattle.pe_space.specs.ImagesApart.{ImagesApart}
use Rattle.pe_space.specs.FieldsAndSlots.{IsSlot, FieldsAndSlotsApart}
use Rattle.pe_space.specs.Windows.{bytes_in}
use Rattle.pe_space.specs.declared.by_base.NumberAt.{NumberAt}
use Rattle.pe_space.proofs.Addressing.{Holds, stand_apart, holder_inside, holder_is, window_lies}
use Rattle.pe_space.proofs.Asked.{limit_le}
use Rattle.pe_space.proofs.Unbinding.{image_bared, length-unbound_images}
use Rattle.pe_space.proofs.Defining.{address_same, byte_same, bytes_same, placements_bared}
use Rattle.pe_space.proofs.Move.{accepts, bare_moved, placed_moved, by_base_moved}
use Rattle.pe_space.proofs.Moving.{part_kept, tied_moved}
use Rattle.pe_space.proofs.SlotsAndFields.{is_in-true, true-is_in}

pub image_at : (images : List SpaceImage) (i : ℕ) (m : SpaceImage) → i < length images → m ≡ get_or images i m → m ≡ nth_image images i
image_at images i m lt is = is ∙ get_or_default images i m no_image lt

-- the address of an export
pub address_fits : (c : Content) (b : Binding) → ImagesApart c → IsSlot c.images b → (nth_image c.images b.exporter).base + b.rva < 2 ^ 64
address_fits c b placed slot =
    let target = slot.target in
    let room = placed.room b.exporter in
    let most = limit_le (nth_image c.images b.exporter).magic in
    omega arith

-- an image of the content with 0 in its bound slots
pub there : (c s : Content) (j : ℕ) → unbound c ≡ s → j < length s.images → j < length c.images
there c s j view lt = let n = length-unbound_images 0 c.bindings c.images in let m = ap (λ (x : Content). length x.images) view in omega arith

pub still_there : (c s : Content) (j : ℕ) → unbound c ≡ s → j < length c.images → j < length s.images
still_there c s j view lt = let n = length-unbound_images 0 c.bindings c.images in let m = ap (λ (x : Content). length x.images) view in omega arith

pub same_size : (c s : Content) (j : ℕ) → unbound c ≡ s → j < length c.images → (nth_image s.images j).size ≡ (nth_image c.images j).size
same_size c s j view lt = ap (λ (x : Content). (nth_image x.images j).size) (sym view) ∙ ap (λ (m : SpaceImage). m.size) (image_bared 0 c.bindings c.images j lt)

-- facts about the image that contains an address
pub record FoundAt (images : List SpaceImage) (a j : ℕ) (m : SpaceImage) : Type 0 where
  pub held : holder_from 0 images a ≡ Some j
  pub low : m.base ≤ a
  pub high : a < m.base + m.size
  pub place : j < length images
  pub image : m ≡ nth_image images j

pub found_at : (images l : List SpaceImage) (a j : ℕ) (m : SpaceImage) → l ≡ images → Some j ≡ placed_from 0 (map placement_of l) a → m ≡ get_or images j m → FoundAt images a j m
found_at images l a j m same found is =
    let held : holder_from 0 images a ≡ Some j = sym (ap (λ (x : List SpaceImage). holder_from 0 x a) same) ∙ sym found in
    let at = holder_inside 0 images a j held in
    let e : at.0 ≡ j = (let e = at.1 in omega arith) in
    let holds : Holds images a j = subst (Holds images a) e at.2 in
    let image : m ≡ nth_image images j = image_at images j m holds.0 is in
    let range = is_in-true _ _ a holds.1 in
    record {
      held = held;
      low = subst (λ (x : SpaceImage). x.base ≤ a) (sym image) range.0;
      high = subst (λ (x : SpaceImage). a < x.base + x.size) (sym image) range.1;
      place = holds.0;
      image = image;
    }

-- the images are ordered by base and disjoint
pub filed_order : {order : List NumberAt} {bs slots : List Binding} {counts : List ℕ} (images l : List SpaceImage) {lent : List NumberAt} → FileSpaceHolds images order bs slots counts → l ≡ images → lent ≡ order → IsByBase (map placement_of l) lent
filed_order images l kept same lent_is = rw (same, lent_is) kept.by_base

pub filed_apart : {order : List NumberAt} {bs slots : List Binding} {counts : List ℕ} (images l : List SpaceImage) → FileSpaceHolds images order bs slots counts → l ≡ images → StandApart (map placement_of l)
filed_apart {bs = bs} images l kept same = rw same (stand_apart (file_content images bs) kept.placed)

-- the places of the content's images
pub placed_so : (images l : List SpaceImage) (bs : List Binding) → l ≡ images → map placement_of l ≡ map placement_of (unbound (file_content images bs)).images
placed_so images l bs same = ap (map placement_of) same ∙ sym (placements_bared 0 bs images)

-- the image that contains a window
pub found_window : (images : List SpaceImage) (a n j : ℕ) (m : SpaceImage) → window_image (map placement_of images) a n ≡ Ok j → m ≡ get_or images j m → FoundAt images a j m × (a - m.base + n ≤ m.size)
found_window images a n j m lies is =
    let both = window_lies images a n j lies in
    let found = found_at images images a j m refl (sym both.0) is in
    let low = found.low in
    let fits : a + n ≤ m.base + m.size = subst (λ (x : SpaceImage). a + n ≤ x.base + x.size) (sym found.image) both.1 in
    (found, omega arith)

module _ (images : List SpaceImage) (order : List NumberAt) (bs slots : List Binding) (counts : List ℕ) (kept : FileSpaceHolds images order bs slots counts) (a j : ℕ) (m : SpaceImage) (found : FoundAt images a j m) where
  abbrev c : Content
  c = file_content images bs

  same : (r : ℕ) → byte_in (unbound c) j r ≡ byte_in c j r
  same r = byte_same c kept.fields_and_slots kept.whole j found.place r

  -- the bytes from an address on, as those of the image that contains it
  bytes_there : (n b r : ℕ) → b ≡ (nth_image c.images j).base + r → r + n ≤ (nth_image c.images j).size → bytes_from c b n ≡ map (byte_in (unbound c) j) (range_with_len r n)
  bytes_there zero b r e fits = refl
  bytes_there (suc n) b r e fits =
      let here = nth_image c.images j in
      let place : b - here.base ≡ r = omega arith in
      let holds : Holds c.images b j = (found.place, true-is_in here.base here.size b (omega arith) (omega arith)) in
      let first : unwrap_or (byte_at c b) 0 ≡ byte_in (unbound c) j r =
      ap (λ (o : Option ℕ). unwrap_or (byte_held c b o) 0) (holder_is c b j kept.placed holds) ∙ ap (byte_in c j) place ∙ sym (same r) in
      let more : bytes_from c (b + 1) n ≡ map (byte_in (unbound c) j) (range_with_len (r + 1) n) = bytes_there n (b + 1) (r + 1) (omega arith) (omega arith) in
      rw (first, more) refl

  pub byte_found : byte_at (unbound c) a ≡ Some (byte_in (unbound c) j (a - m.base))
  byte_found =
      address_same c a kept.fields_and_slots kept.whole
      ∙ ap (byte_held c a) found.held
      ∙ ap (λ (x : SpaceImage). Some (byte_in c j (a - x.base))) (sym found.image)
      ∙ ap (λ (n : ℕ). Some n) (sym (same (a - m.base)))

  -- the bytes of a window in that image
  pub window_found : (n : ℕ) → a - m.base + n ≤ m.size → bytes_from (unbound c) a n ≡ bytes_in (unbound c) j (a - m.base) n
  unfolding bytes_in
  window_found n fits =
      let low = found.low in
      let base : m.base ≡ (nth_image c.images j).base = ap (λ (x : SpaceImage). x.base) found.image in
      let size : m.size ≡ (nth_image c.images j).size = ap (λ (x : SpaceImage). x.size) found.image in
      bytes_same c n a kept.fields_and_slots kept.whole ∙ bytes_there n a (a - m.base) (omega arith) (omega arith)

-- ---- moves
-- the result of testing them
pub fault_so : (images l : List SpaceImage) (bs : List Binding) (i base : ℕ) → l ≡ images → move_fault (file_content images bs) i base ≡ first_standing (move_tests (map placement_of l) i base)
fault_so images l bs i base same = ap (λ (x : List SpaceImage). first_standing (move_tests (map placement_of x) i base)) (sym same)

pub filed_moved : (images : List SpaceImage) (order order_after : List NumberAt) (bs slots : List Binding) (counts : List ℕ) (i base : ℕ) (m new : SpaceImage) → FileSpaceHolds images order bs slots counts → move_fault (file_content images bs) i base ≡ None
    → m ≡ get_or images i m → new ≡ record m { base = base }
    → ((ps : List Placement) → i < length ps → IsByBase ps order → IsByBase (slice_set ps i (record (placement_at ps i) { base = base })) order_after)
    → FileSpaceHolds (slice_set images i new) order_after bs slots counts × (unbound (file_content (slice_set images i new) bs) ≡ moved (unbound (file_content images bs)) i base)
filed_moved images order order_after bs slots counts i base m new kept none is made reordered =
    let c = file_content images bs in
    let ok = accepts c i base none in
    let image : m ≡ nth_image images i = image_at images i m ok.image is in
    let content : file_content (slice_set images i new) bs ≡ moved c i base =
    ap (λ (x : SpaceImage). file_content (slice_set images i x) bs) (made ∙ ap (λ (x : SpaceImage). record x { base = base }) image) in
    let size : (j : ℕ) → (nth_image (moved c i base).images j).size ≡ (nth_image images j).size = (λ j. part_kept (λ (x : SpaceImage). x.size) c i base j ok.image (λ x. refl)) in
    let plain : (j : ℕ) → length (nth_image (moved c i base).images j).plain ≡ length (nth_image images j).plain = (λ j. part_kept (λ (x : SpaceImage). length x.plain) c i base j ok.image (λ x. refl)) in (
      record {
        fields_and_slots = subst FieldsAndSlotsApart (sym content) (tied_moved c i base ok.image kept.fields_and_slots);
        placed = subst ImagesApart (sym content) (placed_moved c i base ok kept.placed);
        whole = λ j. subst (λ (x : Content). length (nth_image x.images j).plain ≡ (nth_image x.images j).size) (sym content) (plain j ∙ kept.whole j ∙ sym (size j));
        small = λ j. subst (λ (x : Content). (nth_image x.images j).size ≤ 2 ^ 31) (sym content) (subst (λ (n : ℕ). n ≤ 2 ^ 31) (sym (size j)) (kept.small j));
        by_base = by_base_moved c i base order order_after (slice_set images i new) ok.image (ap (λ (x : Content). x.images) content) kept.by_base reordered;
        by_slot = kept.by_slot;
        counts = subst (λ (n : ℕ). SlotCounts n bs counts) (sym (length-set images i new)) kept.counts;
      },
      ap unbound content ∙ bare_moved c i base,
    )

-- ---- how many slots are bound to each image
all_zero : (xs : List ℕ) → ((j : ℕ) → get_or xs j 0 ≡ 0) → (j : ℕ) → get_or (xs ++ 0 ∷ []) j 0 ≡ 0
all_zero [] zeros zero = refl
all_zero [] zeros (suc j) = refl
all_zero (x ∷ xs) zeros zero = zeros 0
all_zero (x ∷ xs) zeros (suc j) = all_zero xs (λ k. zeros (suc k)) j

-- a count of 0 for each image
pub record AreZeros (n : ℕ) (counts : List ℕ) : Type 0 where
  pub count : length counts ≡ n
  pub zeros : (j : ℕ) → get_or counts j 0 ≡ 0

pub zeros_none : AreZeros 0 []
zeros_none = record { count = refl; zeros = λ j. refl }

pub zeros_more : (n : ℕ) (counts : List ℕ) → AreZeros n counts → AreZeros (n + 1) (counts ++ 0 ∷ [])
zeros_more n counts so_far = record {
  count = (let parts = length-append counts (0 ∷ []) in omega (arith, parts, so_far.count));
  zeros = all_zero counts so_far.zeros;
}

pub zeros_all : (n : ℕ) (counts : List ℕ) → AreZeros n counts → SlotCounts n [] counts
zeros_all n counts zeros = record { count = zeros.count; each = λ j lt. zeros.zeros j }

-- one more slot
pub counts_more : (n k : ℕ) (bs : List Binding) (d : Binding) (counts : List ℕ) → k < length bs → (get_or bs k d).exporter < n → SlotCounts n (take k bs) counts
    → SlotCounts n (take (k + 1) bs) (slice_set counts (get_or bs k d).exporter (get_or counts (get_or bs k d).exporter 0 + 1))
counts_more n k bs d counts lt small so_far = record {
  count = length-set counts e _ ∙ so_far.count;
  each = λ j below. elim (cases_eq e j) [
    | inl same ↦
        ap (λ (i : ℕ). get_or (slice_set counts e (get_or counts e 0 + 1)) i 0) (sym same)
        ∙ get_or-set_same counts e (get_or counts e 0 + 1) 0 (omega (arith, small, so_far.count))
        ∙ ap (λ (i : ℕ). get_or counts i 0 + 1) same
        ∙ ap (λ (i : ℕ). i + 1) (so_far.each j below)
        ∙ sym (count_by_more_yes (ends_in j) bs k d lt (eq-eqb e j same))
    | inr other ↦
        get_or-set_other counts e j (get_or counts e 0 + 1) 0 (λ is. other (sym is))
        ∙ so_far.each j below
        ∙ sym (count_by_more_no (ends_in j) bs k d lt (ne_eqb e j other))
  ];
}
  where
    e : ℕ
    e = (get_or bs k d).exporter

-- no count is greater than the number of slots
pub count_fits : (n k : ℕ) (bs : List Binding) (j : ℕ) (counts : List ℕ) → k < length bs → length bs < 2 ^ 32 → j < n → SlotCounts n (take k bs) counts → get_or counts j 0 + 1 < 2 ^ 32
count_fits n k bs j counts lt few small so_far =
    let is = so_far.each j small in
    let most = count_by-le-length (ends_in j) (take k bs) in
    let count = length-take-le k bs (omega arith) in
    omega (arith, is, most, count, lt, few)
