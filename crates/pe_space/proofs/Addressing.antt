-- The byte at an address, and the bytes from it on.
use Rattle.std.proofs.Common.{◌≡◌, ℕ, zero, suc, ◌+◌, ◌-◌, ◌<◌, ◌≤◌, Bool, true, false, cond, List, [], ◌∷◌, length, map, drop, take, get_or, refl, ap, ◌∙◌, sym, subst, arith}
use Rattle.std.specs.Prelude.{Option, None, Some, unwrap_or, Ok, Err, nat_le}
use Rattle.std.proofs.lemmas.Bool.{leb-true}
use Rattle.std.proofs.lemmas.List.{length-map, drop_more}
use Rattle.std.proofs.lemmas.Simd.{map-map}
use Rattle.pe_set.specs.declared.binding.Binding.{Binding}
use Rattle.pe_set.specs.Placement.{Placement, placement_at}
use Rattle.pe_space.specs.Content.{SpaceImage, Content, placement_of, nth_image, is_in, placed_from, holder_from, byte_at, byte_held, byte_in, bytes_from, window_fault, window_image_by, window_image}
use Rattle.pe_space.specs.Memory.{memory_of}
use Rattle.pe_space.specs.InMemory.{InMemory, images_of, memories_of}
use Rattle.pe_space.specs.ByBase.{IsByBase, StandApart}
use Rattle.pe_space.specs.ImagesApart.{ImagesApart}
use Rattle.pe_space.specs.FieldsAndSlots.{Apart}
use Rattle.pe_space.specs.declared.by_base.NumberAt.{NumberAt}
use Rattle.pe_space.specs.MappedSpaceView.{mapped_content, MappedSpaceHolds}
use Rattle.pe_space.proofs.Ordering.{placed_inside, placed_is}
use Rattle.pe_space.proofs.SlotsAndFields.{is_in-true, true-is_in}
use Rattle.pe_space.proofs.MemoryWrites.{image_read, memory_read}

-- image k of these contains the address
abbrev pub Holds : List SpaceImage → ℕ → ℕ → Type 0
Holds images a k = (k < length images) × (is_in (nth_image images k).base (nth_image images k).size a ≡ true)

-- the place of an image of a content
pub placed_at : (images : List SpaceImage) (k : ℕ) → placement_at (map placement_of images) k ≡ placement_of (nth_image images k)
placed_at [] k = refl
placed_at (m ∷ images) zero = refl
placed_at (m ∷ images) (suc k) = placed_at images k

-- the images of a content are disjoint
pub stand_apart : (c : Content) → ImagesApart c → StandApart (map placement_of c.images)
stand_apart c placed =
    let count = length-map c.images placement_of in
    record {
      few = omega (arith, count, placed.few);
      some = λ j lt. subst (λ (p : Placement). 0 < p.size) (sym (placed_at c.images j)) (placed.some j (omega (arith, lt, count)));
      apart = λ j k lt_j lt_k ne.
          subst (λ (p : Placement). Apart p.base p.size (placement_at (map placement_of c.images) k).base (placement_at (map placement_of c.images) k).size) (sym (placed_at c.images j))
          (subst (λ (p : Placement). Apart (nth_image c.images j).base (nth_image c.images j).size p.base p.size) (sym (placed_at c.images k))
          (placed.apart j k (omega (arith, lt_j, count)) (omega (arith, lt_k, count)) ne));
    }

pub holder_inside : (n : ℕ) (images : List SpaceImage) (a j : ℕ) → holder_from n images a ≡ Some j → (k : ℕ) × (j ≡ n + k) × Holds images a k
holder_inside n images a j h =
    let held = placed_inside n (map placement_of images) a j h in
    let count = length-map images placement_of in
    (held.0, held.1, (omega (arith, held.2.0, count), subst (λ (p : Placement). is_in p.base p.size a ≡ true) (placed_at images held.0) held.2.1))

-- no two images contain the same address
pub holder_is : (c : Content) (a j : ℕ) → ImagesApart c → Holds c.images a j → holder_from 0 c.images a ≡ Some j
holder_is c a j placed here =
    let count = length-map c.images placement_of in
    placed_is (map placement_of c.images) a j (stand_apart c placed)
    (omega (arith, here.0, count), subst (λ (p : Placement). is_in p.base p.size a ≡ true) (sym (placed_at c.images j)) here.1)

-- the places of images in memory
pub placed_so : (hs xs : List InMemory) → xs ≡ hs → map placement_of (images_of hs) ≡ map (λ (h : InMemory). placement_of h.image) xs
placed_so hs xs same = map-map placement_of (λ (h : InMemory). h.image) hs ∙ ap (map (λ (h : InMemory). placement_of h.image)) (sym same)

-- they are ordered by base and disjoint
pub kept_order : {order : List NumberAt} {slots : List Binding} (hs xs : List InMemory) (bs : List Binding) {lent : List NumberAt} → MappedSpaceHolds hs order bs slots → xs ≡ hs → lent ≡ order → IsByBase (map (λ (h : InMemory). placement_of h.image) xs) lent
kept_order {order = order} hs xs bs kept same lent_is = rw lent_is (subst (λ (ps : List Placement). IsByBase ps order) (placed_so hs xs same) kept.by_base)

pub kept_apart : {order : List NumberAt} {slots : List Binding} (hs xs : List InMemory) (bs : List Binding) → MappedSpaceHolds hs order bs slots → xs ≡ hs → StandApart (map (λ (h : InMemory). placement_of h.image) xs)
kept_apart hs xs bs kept same = subst StandApart (placed_so hs xs same) (stand_apart (mapped_content hs bs) kept.placed)

-- the number that a search of them returned
pub held_by : (hs xs : List InMemory) (a : ℕ) (o : Option ℕ) → xs ≡ hs → o ≡ placed_from 0 (map (λ (h : InMemory). placement_of h.image) xs) a → holder_from 0 (images_of hs) a ≡ o
held_by hs xs a o same is = ap (λ (ps : List Placement). placed_from 0 ps a) (placed_so hs xs same) ∙ sym is

-- facts about the image that contains an address
pub record Found (hs : List InMemory) (bs : List Binding) (a j : ℕ) (h : InMemory) : Type 0 where
  pub low : h.image.base ≤ a
  pub high : a < h.image.base + h.image.size
  pub place : j < length hs
  pub image : h.image ≡ nth_image (images_of hs) j
  pub memory : h.memory ≡ memory_of (memories_of hs) j

pub found_at : (hs : List InMemory) (bs : List Binding) (a j : ℕ) (h : InMemory) → holder_from 0 (images_of hs) a ≡ Some j → h ≡ get_or hs j h → Found hs bs a j h
found_at hs bs a j h found is =
    let at = holder_inside 0 (images_of hs) a j found in
    let e : at.0 ≡ j = (let e = at.1 in omega arith) in
    let holds : Holds (images_of hs) a j = subst (Holds (images_of hs) a) e at.2 in
    let lt : j < length hs = (let small = holds.0 in let n = length-map hs (λ (x : InMemory). x.image) in omega arith) in
    let image = image_read hs j h lt is in
    let range = is_in-true _ _ a holds.1 in
    record {
      low = subst (λ (m : SpaceImage). m.base ≤ a) (sym image) range.0;
      high = subst (λ (m : SpaceImage). a < m.base + m.size) (sym image) range.1;
      place = lt;
      image = image;
      memory = memory_read hs j h lt is;
    }

-- a byte of the image that contains an address
pub byte_here : {order : List NumberAt} {slots : List Binding} (hs : List InMemory) (bs : List Binding) (a j : ℕ) (h : InMemory) → MappedSpaceHolds hs order bs slots → Found hs bs a j h → (b : ℕ) → h.image.base ≤ b → b < h.image.base + h.image.size
    → byte_at (mapped_content hs bs) b ≡ Some (get_or h.memory (b - h.image.base) 0)
byte_here hs bs a j h kept found b low high =
    let c = mapped_content hs bs in
    let count = length-map hs (λ (x : InMemory). x.image) in
    let place = found.place in
    let holds : Holds c.images b j = (omega arith, subst (λ (m : SpaceImage). is_in m.base m.size b ≡ true) found.image (true-is_in _ _ b low high)) in
    let small : b - h.image.base < h.image.size = omega arith in
    ap (byte_held c b) (holder_is c b j kept.placed holds)
    ∙ ap (λ (m : SpaceImage). Some (byte_in c j (b - m.base))) (sym found.image)
    ∙ ap (λ (n : ℕ). Some n) (sym (ap (λ (m : List ℕ). get_or m (b - h.image.base) 0) found.memory ∙ kept.memory_holds.each j (b - h.image.base) (subst (λ (m : SpaceImage). b - h.image.base < m.size) found.image small)))

pub bytes_here : {order : List NumberAt} {slots : List Binding} (hs : List InMemory) (bs : List Binding) (a j : ℕ) (h : InMemory) → MappedSpaceHolds hs order bs slots → Found hs bs a j h → (n b r : ℕ) → b ≡ h.image.base + r → r + n ≤ h.image.size → h.image.size ≡ length h.memory
    → bytes_from (mapped_content hs bs) b n ≡ take n (drop r h.memory)
bytes_here hs bs a j h kept found zero b r e fits len = refl
bytes_here hs bs a j h kept found (suc n) b r e fits len =
    let place : b - h.image.base ≡ r = omega arith in
    let first : unwrap_or (byte_at (mapped_content hs bs) b) 0 ≡ get_or h.memory r 0 = ap (λ (o : Option ℕ). unwrap_or o 0) (byte_here hs bs a j h kept found b (omega arith) (omega arith)) ∙ ap (λ (k : ℕ). get_or h.memory k 0) place in
    let more : bytes_from (mapped_content hs bs) (b + 1) n ≡ take n (drop (r + 1) h.memory) = bytes_here hs bs a j h kept found n (b + 1) (r + 1) (omega arith) (omega arith) len in
    rw (first, more, drop_more h.memory r 0 (omega arith)) refl

pub size_here : {order : List NumberAt} {slots : List Binding} (hs : List InMemory) (bs : List Binding) (a j : ℕ) (h : InMemory) → MappedSpaceHolds hs order bs slots → Found hs bs a j h → h.image.size ≡ length h.memory
size_here hs bs a j h kept found = ap (λ (m : SpaceImage). m.size) found.image ∙ sym (kept.memory_holds.lengths j) ∙ ap length (sym found.memory)

-- where a window is
lies_step : (ps : List Placement) (a n j k : ℕ) (t : Bool) → nat_le (a + n) ((placement_at ps k).base + (placement_at ps k).size) ≡ t → cond t (Ok k) (Err (window_fault k a)) ≡ Ok j
    → (k ≡ j) × (a + n ≤ (placement_at ps k).base + (placement_at ps k).size)
lies_step ps a n j k true is h = (cc, leb-true _ _ is)
lies_step ps a n j k false is h = absurd cc

lies_by : (ps : List Placement) (a n j : ℕ) (o : Option ℕ) → window_image_by ps a n o ≡ Ok j → (o ≡ Some j) × (a + n ≤ (placement_at ps j).base + (placement_at ps j).size)
lies_by ps a n j None h = absurd cc
lies_by ps a n j (Some k) h =
    let both = lies_step ps a n j k (nat_le (a + n) ((placement_at ps k).base + (placement_at ps k).size)) refl h in
    (ap (λ (i : ℕ). Some i) both.0, subst (λ (i : ℕ). a + n ≤ (placement_at ps i).base + (placement_at ps i).size) both.0 both.1)

pub window_lies : (images : List SpaceImage) (a n j : ℕ) → window_image (map placement_of images) a n ≡ Ok j → (holder_from 0 images a ≡ Some j) × (a + n ≤ (nth_image images j).base + (nth_image images j).size)
window_lies images a n j h =
    let both = lies_by (map placement_of images) a n j (holder_from 0 images a) h in
    (both.0, subst (λ (p : Placement). a + n ≤ p.base + p.size) (placed_at images j) both.1)

pub window_place : (images : List SpaceImage) (a n j : ℕ) → window_image (map placement_of images) a n ≡ Ok j → j < length images
window_place images a n j h =
    let at = holder_inside 0 images a j (window_lies images a n j h).0 in
    omega (arith, at.1, at.2.0)

-- the image that contains it
pub found_window : (hs : List InMemory) (bs : List Binding) (a n j : ℕ) (h : InMemory) → window_image (map placement_of (images_of hs)) a n ≡ Ok j → h ≡ get_or hs j h
    → Found hs bs a j h × (a - h.image.base + n ≤ h.image.size)
found_window hs bs a n j h lies is =
    let both = window_lies (images_of hs) a n j lies in
    let found = found_at hs bs a j h both.0 is in
    let low = found.low in
    let fits : a + n ≤ h.image.base + h.image.size = subst (λ (m : SpaceImage). a + n ≤ m.base + m.size) (sym found.image) both.1 in
    (found, omega arith)

-- the bytes of a window in that image
pub window_here : {order : List NumberAt} {slots : List Binding} (hs : List InMemory) (bs : List Binding) (a n j : ℕ) (h : InMemory) → MappedSpaceHolds hs order bs slots → Found hs bs a j h → a - h.image.base + n ≤ h.image.size
    → bytes_from (mapped_content hs bs) a n ≡ take n (drop (a - h.image.base) h.memory)
window_here hs bs a n j h kept found fits =
    let low = found.low in
    bytes_here hs bs a j h kept found n a (a - h.image.base) (omega arith) fits (size_here hs bs a j h kept found)
