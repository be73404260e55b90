-- Lists of images with their memories.
use Rattle.std.proofs.Common.{◌≡◌, ℕ, ◌+◌, ◌<◌, List, [], length, drop, get_or, refl, ap, ◌∙◌, sym, arith}
use Rattle.std.specs.Prelude.{slice_set}
use Rattle.std.proofs.lemmas.List.{map-set, set-get_or, get_or-map, at_drop_more, length-map}
use Rattle.pe_set.specs.declared.binding.Binding.{Binding}
use Rattle.pe_space.specs.Content.{SpaceImage, nth_image, no_image, slot_width}
use Rattle.pe_space.specs.Memory.{patch, bytes, memory_of, put_slot, address_of, bound}
use Rattle.pe_space.specs.InMemory.{InMemory, images_of, memories_of}
use Rattle.pe_space.specs.FieldsAndSlots.{IsSlot}

-- the image that is read at an index
pub image_read : (hs : List InMemory) (i : ℕ) (h : InMemory) → i < length hs → h ≡ get_or hs i h → h.image ≡ nth_image (images_of hs) i
image_read hs i h lt is = ap (λ (x : InMemory). x.image) is ∙ sym (get_or-map (λ (x : InMemory). x.image) hs i h no_image lt)

pub memory_read : (hs : List InMemory) (i : ℕ) (h : InMemory) → i < length hs → h ≡ get_or hs i h → h.memory ≡ memory_of (memories_of hs) i
memory_read hs i h lt is = ap (λ (x : InMemory). x.memory) is ∙ sym (get_or-map (λ (x : InMemory). x.memory) hs i h [] lt)

-- an image that keeps its record changes no record
pub images_same : (hs : List InMemory) (i : ℕ) (h new : InMemory) → i < length hs → h ≡ get_or hs i h → new.image ≡ h.image → images_of (slice_set hs i new) ≡ images_of hs
images_same hs i h new lt is same =
    map-set (λ (x : InMemory). x.image) hs i new ∙ ap (slice_set (images_of hs) i) (same ∙ image_read hs i h lt is) ∙ set-get_or (images_of hs) i no_image

pub put_step : (hs : List InMemory) (b : Binding) (v : ℕ) (h new : InMemory) → b.image < length hs → h ≡ get_or hs b.image h
    → new ≡ record h { memory = patch h.memory b.slot (bytes (slot_width h.image.magic) v) }
    → (images_of (slice_set hs b.image new) ≡ images_of hs) × (memories_of (slice_set hs b.image new) ≡ put_slot (images_of hs) b v (memories_of hs))
unfolding put_slot
put_step hs b v h new lt is made = (
  images_same hs b.image h new lt is (ap (λ (x : InMemory). x.image) made),
  map-set (λ (x : InMemory). x.memory) hs b.image new
      ∙ ap (slice_set (memories_of hs) b.image) (ap (λ (x : InMemory). x.memory) made
      ∙ ap (λ (m : List ℕ). patch m b.slot (bytes (slot_width h.image.magic) v)) (memory_read hs b.image h lt is)
      ∙ ap (λ (m : SpaceImage). patch (memory_of (memories_of hs) b.image) b.slot (bytes (slot_width m.magic) v)) (image_read hs b.image h lt is)),
)

pub in_list : (first hs : List InMemory) (images : List SpaceImage) (j : ℕ) → images ≡ images_of first → images_of hs ≡ images → j < length images → j < length hs
in_list first hs images j e same lt = let n = ap length same in let m = length-map hs (λ (x : InMemory). x.image) in omega arith

-- an address is written into the slot of a binding
pub put_here : (hs : List InMemory) (b : Binding) (v : ℕ) (r new : InMemory) → IsSlot (images_of hs) b → r ≡ get_or hs b.image r
    → new ≡ record (get_or hs b.image r) { memory = patch (get_or hs b.image r).memory b.slot (bytes (slot_width (get_or hs b.image r).image.magic) v) }
    → (images_of (slice_set hs b.image new) ≡ images_of hs) × (memories_of (slice_set hs b.image new) ≡ put_slot (images_of hs) b v (memories_of hs))
put_here hs b v r new slot is made =
    let from_r : new ≡ record r { memory = patch r.memory b.slot (bytes (slot_width r.image.magic) v) } =
    made ∙ ap (λ (x : InMemory). record x { memory = patch x.memory b.slot (bytes (slot_width x.image.magic) v) }) (sym is) in
    put_step hs b v r new (in_list hs hs (images_of hs) b.image refl refl slot.image) is from_r

-- one more slot
pub bind_step : (images : List SpaceImage) (hs after : List InMemory) (k : ℕ) (bs : List Binding) (d : Binding) (v : ℕ) (end : List (List ℕ))
    → k < length bs → images_of hs ≡ images → v ≡ address_of images (get_or bs k d)
    → images_of after ≡ images_of hs → memories_of after ≡ put_slot (images_of hs) (get_or bs k d) v (memories_of hs)
    → bound images (drop k bs) (memories_of hs) ≡ end
    → (images_of after ≡ images) × (bound images (drop (k + 1) bs) (memories_of after) ≡ end)
bind_step images hs after k bs d v end lt same at kept put h =
    let b = get_or bs k d in
    let next : bound images (drop k bs) (memories_of hs) ≡ bound images (drop (k + 1) bs) (put_slot images b (address_of images b) (memories_of hs)) = at_drop_more (λ (ys : List Binding). bound images ys (memories_of hs)) bs k d lt in (
      kept ∙ same,
      ap (bound images (drop (k + 1) bs))
          (put ∙ ap (λ (n : ℕ). put_slot (images_of hs) b n (memories_of hs)) at ∙ ap (λ (x : List SpaceImage). put_slot x b (address_of images b) (memories_of hs)) same)
          ∙ sym next ∙ h,
    )
