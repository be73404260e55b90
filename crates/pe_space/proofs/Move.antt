-- An accepted move keeps what a space must hold.
use Rattle.std.proofs.Common.{◌≡◌, ℕ, zero, suc, ◌+◌, ◌%◌, ◌<◌, ◌≤◌, ◌^◌, ◌⊎◌, Bool, true, false, cond, not, ◌&&◌, List, [], ◌∷◌, map, length, get_or, refl, ap, ◌∙◌, sym, subst, arith, inl, inr}
use Rattle.std.specs.Prelude.{slice_set, None, nat_lt, ◌==◌, pos, ◌-ℤ◌}
use Rattle.std.proofs.lemmas.Bool.{cases_eq, eqb-true}
use Rattle.std.proofs.lemmas.List.{map-set, length-map, length-set}
use borrow.Author.Tests.{ltb-true, ltb-false}
use Rattle.pe_set.specs.declared.binding.Binding.{Binding}
use Rattle.pe_space.specs.Content.{SpaceImage, Content, nth_image, placement_of, slot_width}
use Rattle.pe_space.specs.ByBase.{IsByBase}
use Rattle.pe_space.specs.Memory.{shifted_all, memory_of, bound, ends_in}
use Rattle.pe_space.specs.declared.by_base.NumberAt.{NumberAt}
use Rattle.pe_space.specs.InMemory.{InMemory, images_of, memories_of, rebased_image}
use Rattle.pe_space.specs.FieldsAndSlots.{Each, Apart, IsSlot}
use Rattle.pe_space.specs.Ordered.{IsOrdered, exporter_of}
use Rattle.pe_space.specs.ImagesApart.{ImagesApart}
use Rattle.pe_space.specs.Moves.{move_fault, moved, moved_counts}
use Rattle.pe_space.specs.declared.space.Moved.{Moved}
use Rattle.pe_space.specs.Unbound.{without_slots, unbound_images, unbound}
use Rattle.pe_space.proofs.Addressing.{placed_at}
use Rattle.pe_space.proofs.Asked.{limit_le}
use Rattle.pe_space.proofs.Defining.{placements_bared}
use Rattle.pe_view.specs.Faults.{first_standing}
use Rattle.std.specs.Prelude.{count_by}
use Rattle.pe_set.specs.Placement.{Placement, address_limit, overlap, no_placement, placement_at, move_tests}
use Rattle.pe_ranges.specs.Ranges.{meets}
use Rattle.pe_view.specs.FirstStanding.{none_stands}
use Rattle.std.specs.List.{Contains}
use Rattle.std.proofs.lemmas.List.Sorted.{Contains-permutation, IsPermutation-sym, sum_by-IsPermutation}
use Rattle.pe_space.specs.MappedSpaceView.{mapped_content, MappedSpaceHolds}
use Rattle.pe_space.proofs.Lists.{each_in, each_contains, others_free}
use Rattle.pe_space.proofs.Moving.{AreEnding, part_kept, image_moved, image_kept, tied_moved, laid_moved, moved_memory}
use Rattle.pe_space.proofs.MemoryWrites.{image_read, memory_read}

not_false : (b : Bool) → not b ≡ false → b ≡ true
not_false true h = refl
not_false false h = cc

and_false : (a b : Bool) → (a && b) ≡ false → (a ≡ false) ⊎ (b ≡ false)
and_false true b h = inr h
and_false false b h = inl refl

apart_unless_meets : (a n b m : ℕ) → meets a n b m ≡ false → Apart a n b m
apart_unless_meets a n b m h = elim (and_false (nat_lt a (b + m)) (nat_lt b (a + n)) h) [
  | inl after ↦ inr (ltb-false a (b + m) after)
  | inr before ↦ inl (ltb-false b (a + n) before)
]

-- facts about an accepted move
pub record Accepts (c : Content) (i base : ℕ) : Type 0 where
  pub image : i < length c.images
  pub aligned : base % 65536 ≡ 0
  pub room : base + (nth_image c.images i).size ≤ address_limit (nth_image c.images i).magic
  pub others : (k : ℕ) → k < length c.images → (k ≡ i → ⊥) → Apart base (nth_image c.images i).size (nth_image c.images k).base (nth_image c.images k).size

pub accepts : (c : Content) (i base : ℕ) → move_fault c i base ≡ None → Accepts c i base
accepts c i base none =
    let ps = map placement_of c.images in
    let count = length-map c.images placement_of in
    let there = none_stands (move_tests ps i base) 0 _ none refl in
    let whole = none_stands (move_tests ps i base) 1 _ none refl in
    let ends = none_stands (move_tests ps i base) 2 _ none refl in
    let free = none_stands (move_tests ps i base) 4 _ none refl in
    let own = placed_at c.images i in
    let below : i < length ps = ltb-true i (length ps) (not_false (nat_lt i (length ps)) there) in
    let room = ltb-false _ _ ends in
    record {
      image = omega (arith, below, count);
      aligned = eqb-true (base % 65536) 0 (not_false (base % 65536 == 0) whole);
      room = subst (λ (p : Placement). base + p.size ≤ address_limit p.magic) own room;
      others = λ k lt ne.
          let met = others_free (overlap (record (placement_at ps i) { base = base })) ps no_placement i k free (omega (arith, lt, count)) ne in
          apart_unless_meets base (nth_image c.images i).size (nth_image c.images k).base (nth_image c.images k).size
          (subst (λ (p : Placement). meets base p.size (nth_image c.images k).base (nth_image c.images k).size ≡ false) own
          (subst (λ (q : Placement). meets base (placement_at ps i).size q.base q.size ≡ false) (placed_at c.images k) met));
    }

-- the order of the images after the move
pub by_base_moved : (c : Content) (i base : ℕ) (order order_after : List NumberAt) (images : List SpaceImage) → i < length c.images → images ≡ (moved c i base).images → IsByBase (map placement_of c.images) order
    → ((ps : List Placement) → i < length ps → IsByBase ps order → IsByBase (slice_set ps i (record (placement_at ps i) { base = base })) order_after)
    → IsByBase (map placement_of images) order_after
by_base_moved c i base order order_after images lt is by_base reordered =
    let ps = map placement_of c.images in
    let count = length-map c.images placement_of in
    let there : map placement_of images ≡ slice_set ps i (record (placement_at ps i) { base = base }) =
    ap (map placement_of) is ∙ map-set placement_of c.images i (record (nth_image c.images i) { base = base }) ∙ ap (λ (p : Placement). slice_set ps i (record p { base = base })) (sym (placed_at c.images i)) in
    subst (λ (qs : List Placement). IsByBase qs order_after) (sym there) (reordered ps (omega arith) by_base)

pub placed_moved : (c : Content) (i base : ℕ) → Accepts c i base → ImagesApart c → ImagesApart (moved c i base)
placed_moved c i base ok placed = record {
  few = rw (length-set c.images i (record (nth_image c.images i) { base = base })) placed.few;
  few_slots = placed.few_slots;
  aligned = aligned;
  room = room;
  some = λ j small. some j (rw count at small);
  apart = λ j k small_j small_k ne. apart j k (rw count at small_j) (rw count at small_k) ne;
}
  where
    count : length (moved c i base).images ≡ length c.images
    count = length-set c.images i _

    aligned : (j : ℕ) → (nth_image (moved c i base).images j).base % 65536 ≡ 0
    aligned j = elim (cases_eq j i) [
      | inl here ↦ rw (here, image_moved c i base ok.image) ok.aligned
      | inr ne ↦ rw (image_kept c i base j ne) (placed.aligned j)
    ]

    room : (j : ℕ) → (nth_image (moved c i base).images j).base + (nth_image (moved c i base).images j).size ≤ address_limit (nth_image (moved c i base).images j).magic
    room j = elim (cases_eq j i) [
      | inl here ↦ rw (here, image_moved c i base ok.image) ok.room
      | inr ne ↦ rw (image_kept c i base j ne) (placed.room j)
    ]

    some : (j : ℕ) → j < length c.images → 0 < (nth_image (moved c i base).images j).size
    some j lt = rw (part_kept (λ (m : SpaceImage). m.size) c i base j ok.image (λ m. refl)) (placed.some j lt)

    turned : (a n b m : ℕ) → Apart a n b m → Apart b m a n
    turned a n b m (inl x) = inr x
    turned a n b m (inr x) = inl x

    apart : (j k : ℕ) → j < length c.images → k < length c.images → (j ≡ k → ⊥) → Apart (nth_image (moved c i base).images j).base (nth_image (moved c i base).images j).size (nth_image (moved c i base).images k).base (nth_image (moved c i base).images k).size
    apart j k small_j small_k ne = elim (cases_eq j i) [
      | inl j_here ↦ rw (j_here, image_moved c i base ok.image, image_kept c i base k (λ e. ne (j_here ∙ sym e))) (ok.others k small_k (λ e. ne (j_here ∙ sym e)))
      | inr j_other ↦ elim (cases_eq k i) [
        | inl k_here ↦ rw (k_here, image_moved c i base ok.image, image_kept c i base j j_other) (turned _ _ _ _ (ok.others j small_j j_other))
        | inr k_other ↦ rw (image_kept c i base j j_other, image_kept c i base k k_other) (placed.apart j k small_j small_k ne)
      ]
    ]

-- the lists once the image has its new base
pub rebased_content : (hs : List InMemory) (bs : List Binding) (i base : ℕ) (h new : InMemory) → i < length hs → h ≡ get_or hs i h → new ≡ rebased_image base h
    → (images_of (slice_set hs i new) ≡ (moved (mapped_content hs bs) i base).images)
    × (memories_of (slice_set hs i new) ≡ slice_set (memories_of hs) i (shifted_all (pos base -ℤ pos (nth_image (images_of hs) i).base) (nth_image (images_of hs) i).fixups (memory_of (memories_of hs) i)))
rebased_content hs bs i base h new lt is made =
    let image = image_read hs i h lt is in (
      map-set (λ (x : InMemory). x.image) hs i new ∙ ap (slice_set (images_of hs) i) (ap (λ (x : InMemory). x.image) made ∙ ap (λ (m : SpaceImage). record m { base = base }) image),
      map-set (λ (x : InMemory). x.memory) hs i new ∙ ap (slice_set (memories_of hs) i) (ap (λ (x : InMemory). x.memory) made
          ∙ ap (λ (m : SpaceImage). shifted_all (pos base -ℤ pos m.base) m.fixups h.memory) image
          ∙ ap (shifted_all (pos base -ℤ pos (nth_image (images_of hs) i).base) (nth_image (images_of hs) i).fixups) (memory_read hs i h lt is)),
    )

-- the slots of one exporter in a list ordered by exporter are those bound to it
pub ending_from : (c : Content) (slots l lent : List Binding) (i : ℕ) → IsOrdered exporter_of c.bindings slots → l ≡ slots
    → ((b : Binding) → Contains lent b → Contains l b × (b.exporter ≡ i)) → ((b : Binding) → Contains l b → b.exporter ≡ i → Contains lent b) → AreEnding c i lent
ending_from c slots l lent i ordered same held all = record {
  held = λ b listed.
      let own = held b listed in
      (Contains-permutation slots c.bindings b (IsPermutation-sym c.bindings slots ordered.same) (subst (λ (xs : List Binding). Contains xs b) same own.0), own.1);
  all = λ b bound ends. all b (subst (λ (xs : List Binding). Contains xs b) (sym same) (Contains-permutation c.bindings slots b ordered.same bound)) ends;
}

pub count_ending : (bs slots l : List Binding) (i n : ℕ) → IsOrdered exporter_of bs slots → l ≡ slots → n ≡ count_by (ends_in i) l → n ≡ count_by (ends_in i) bs
count_ending bs slots l i n ordered same is = is ∙ ap (count_by (ends_in i)) same ∙ sum_by-IsPermutation (λ (b : Binding). cond (ends_in i b) 1 0) bs slots ordered.same

-- after the image got its base: what holds of the slots before they are bound, and after that
module _ (hs first : List InMemory) (order : List NumberAt) (bs slots : List Binding) (i base : ℕ) (h new : InMemory) (kept : MappedSpaceHolds hs order bs slots) (none : move_fault (mapped_content hs bs) i base ≡ None)
    (is : h ≡ get_or hs i h) (made : new ≡ rebased_image base h) (first_is : first ≡ slice_set hs i new) where
  abbrev c : Content
  c = mapped_content hs bs

  ok : Accepts c i base
  ok = accepts c i base none

  pub below : i < length hs
  below = let n = length-map hs (λ (x : InMemory). x.image) in let m = ok.image in omega arith

  both : (images_of (slice_set hs i new) ≡ (moved c i base).images)
      × (memories_of (slice_set hs i new) ≡ slice_set (memories_of hs) i (shifted_all (pos base -ℤ pos (nth_image (images_of hs) i).base) (nth_image (images_of hs) i).fixups (memory_of (memories_of hs) i)))
  both = rebased_content hs bs i base h new below is made

  pub images_first : images_of first ≡ (moved c i base).images
  images_first = ap images_of first_is ∙ both.0

  pub room_first : (j : ℕ) → (nth_image (images_of first) j).base + (nth_image (images_of first) j).size ≤ 2 ^ 64
  room_first j =
      let room = (placed_moved c i base ok kept.placed).room j in
      let most = limit_le (nth_image (moved c i base).images j).magic in
      subst (λ (x : List SpaceImage). (nth_image x j).base + (nth_image x j).size ≤ 2 ^ 64) (sym images_first) (omega arith)

  pub slots_first : (lent : List Binding) → AreEnding c i lent → Each (IsSlot (images_of first)) lent
  slots_first lent ending = rw images_first (each_in (IsSlot (moved c i base).images) lent (λ b held. each_contains (IsSlot (moved c i base).images) bs b (tied_moved c i base ok.image kept.fields_and_slots).slots (ending.held b held).0))

  pub kept_moved : (after : List InMemory) (lent : List Binding) (order_after : List NumberAt) → AreEnding c i lent
      → ((ps : List Placement) → i < length ps → IsByBase ps order → IsByBase (slice_set ps i (record (placement_at ps i) { base = base })) order_after)
      → images_of after ≡ images_of first → memories_of after ≡ bound (images_of first) lent (memories_of first)
      → MappedSpaceHolds after order_after bs slots × (mapped_content after bs ≡ moved c i base)
  kept_moved after lent order_after ending reordered same written =
      let images : images_of after ≡ (moved c i base).images = same ∙ images_first in
      let content : mapped_content after bs ≡ moved c i base = ap (λ (x : List SpaceImage). record { images = x; bindings = bs }) images in
      let memory : memories_of after ≡ moved_memory c i base lent (memories_of hs) =
      written ∙ ap (λ (x : List SpaceImage). bound x lent (memories_of first)) images_first
      ∙ ap (bound (moved c i base).images lent) (ap memories_of first_is ∙ both.1) in (
        record {
          fields_and_slots = rw content (tied_moved c i base ok.image kept.fields_and_slots);
          placed = rw content (placed_moved c i base ok kept.placed);
          memory_holds = rw (content, memory) (laid_moved c i base lent (memories_of hs) ok.image ok.aligned (kept.placed.aligned i) ending kept.fields_and_slots kept.memory_holds);
          whole = λ j. ap (λ (x : List SpaceImage). length (nth_image x j).plain) images ∙ part_kept (λ (m : SpaceImage). length m.plain) c i base j ok.image (λ m. refl)
              ∙ kept.whole j ∙ sym (ap (λ (x : List SpaceImage). (nth_image x j).size) images ∙ part_kept (λ (m : SpaceImage). m.size) c i base j ok.image (λ m. refl));
          by_base = by_base_moved c i base order order_after (images_of after) ok.image images kept.by_base reordered;
          by_exporter = kept.by_exporter;
        },
        content,
      )

-- ---- the same of the content with 0 in its bound slots
bared_set : (k i base : ℕ) (bs : List Binding) (images : List SpaceImage) → unbound_images k bs (slice_set images i (record (nth_image images i) { base = base }))
    ≡ slice_set (unbound_images k bs images) i (record (nth_image (unbound_images k bs images) i) { base = base })
bared_set k i base bs [] = refl
bared_set k zero base bs (m ∷ images) = refl
bared_set k (suc i) base bs (m ∷ images) =
    ap (λ (rest : List SpaceImage). record m { plain = without_slots k (slot_width m.magic) bs m.plain } ∷ rest) (bared_set (k + 1) i base bs images)

pub bare_moved : (c : Content) (i base : ℕ) → unbound (moved c i base) ≡ moved (unbound c) i base
bare_moved c i base = ap (λ (images : List SpaceImage). record c { images = images }) (bared_set 0 i base c.bindings c.images)

pub fault_bare : (c : Content) (i base : ℕ) → move_fault (unbound c) i base ≡ move_fault c i base
fault_bare c i base = ap (λ (ps : List Placement). first_standing (move_tests ps i base)) (placements_bared 0 c.bindings c.images)

fields_bared : (k : ℕ) (bs : List Binding) (images : List SpaceImage) (i : ℕ) → length (nth_image (unbound_images k bs images) i).fixups ≡ length (nth_image images i).fixups
fields_bared k bs [] i = refl
fields_bared k bs (m ∷ images) zero = refl
fields_bared k bs (m ∷ images) (suc i) = fields_bared (k + 1) bs images i

counted : ℕ → ℕ → Moved
counted fields slots = record { fields = fields; slots = slots }

pub counts_bare : (c : Content) (i : ℕ) → moved_counts (unbound c) i ≡ moved_counts c i
unfolding counted
counts_bare c i = ap (λ (n : ℕ). counted n (count_by (ends_in i) c.bindings)) (fields_bared 0 c.bindings c.images i)
