-- A content with 0 in its bound slots.
use Rattle.std.proofs.Common.{◌≡◌, ℕ, zero, suc, ◌+◌, ◌<◌, ◌≤◌, ◌⊎◌, cond, ◌==◌, List, [], ◌∷◌, length, get_or, refl, ap, ◌∙◌, sym, arith, inl, inr}
use Rattle.std.proofs.lemmas.Bool.Decides.{eqb_tells}
use Rattle.pe_set.specs.declared.binding.Binding.{Binding}
use Rattle.pe_space.specs.Content.{SpaceImage, Content, nth_image, slot_width}
use Rattle.pe_space.specs.Memory.{patch, bytes}
use Rattle.pe_space.specs.Unbound.{without_slots, unbound_images, unbound, images_at, set_at}
use Rattle.pe_space.specs.FieldsAndSlots.{Each}
use Rattle.pe_space.proofs.Lists.{each_map}
use Rattle.pe_tables.specs.Patched.{length-patch, length-bytes_from, written_out}

-- ---- the laws do not depend on bases
unbound_images-images_at : (j : ℕ) (bs : List Binding) (bases : List ℕ) (images : List SpaceImage) → unbound_images j bs (images_at bases images) ≡ images_at bases (unbound_images j bs images)
unbound_images-images_at j bs [] images = refl
unbound_images-images_at j bs (base ∷ bases) [] = refl
unbound_images-images_at j bs (base ∷ bases) (image ∷ images) = ap (λ (xs : List SpaceImage). record image { base = base; plain = without_slots j (slot_width image.magic) bs image.plain } ∷ xs) (unbound_images-images_at (j + 1) bs bases images)

pub content_at_bases : (bases : List ℕ) (s : Content) → set_at bases (unbound s) ≡ unbound (set_at bases s)
content_at_bases bases s = ap (λ (xs : List SpaceImage). record s { images = xs }) (sym (unbound_images-images_at 0 s.bindings bases s.images))

-- ---- bytes outside all slots are unchanged
bare_step : (j w : ℕ) (b : Binding) (xs : List ℕ) (r : ℕ) → (b.image ≡ j → (b.slot + w ≤ length xs) × ((r < b.slot) ⊎ (b.slot + w ≤ r)))
    → (get_or (cond (b.image == j) (patch xs b.slot (bytes w 0)) xs) r 0 ≡ get_or xs r 0)
bare_step j w b xs r h = elim (eqb_tells b.image j) [
  | inl hit ↦ rw hit.0 (written_out xs b.slot w 0 r (h hit.1).0 (h hit.1).1)
  | inr miss ↦ rw miss.0 refl
]

bare_length : (j w : ℕ) (b : Binding) (xs : List ℕ) → (b.image ≡ j → b.slot + w ≤ length xs) → length (cond (b.image == j) (patch xs b.slot (bytes w 0)) xs) ≡ length xs
bare_length j w b xs h = elim (eqb_tells b.image j) [
  | inl hit ↦ rw hit.0 (let len = length-bytes_from 0 w 0 in let fits = h hit.1 in length-patch xs b.slot (bytes w 0) (omega arith))
  | inr miss ↦ rw miss.0 refl
]

pub bare_same : (j w r : ℕ) (bs : List Binding) (xs : List ℕ) → Each (λ (b : Binding). b.image ≡ j → (b.slot + w ≤ length xs) × ((r < b.slot) ⊎ (b.slot + w ≤ r))) bs
    → get_or (without_slots j w bs xs) r 0 ≡ get_or xs r 0
bare_same j w r [] xs h = refl
bare_same j w r (b ∷ bs) xs h =
    let len = bare_length j w b xs (λ e. (h.0 e).0) in
    bare_same j w r bs (cond (b.image == j) (patch xs b.slot (bytes w 0)) xs)
    (each_map (λ (e : Binding). e.image ≡ j → (e.slot + w ≤ length xs) × ((r < e.slot) ⊎ (e.slot + w ≤ r))) _ bs (λ e f same. (rw len (f same).0, (f same).1)) h.1)
    ∙ bare_step j w b xs r h.0

-- ---- the images without the bytes in bound slots
pub image_bared : (n : ℕ) (bs : List Binding) (images : List SpaceImage) (i : ℕ) → i < length images
    → nth_image (unbound_images n bs images) i ≡ record (nth_image images i) { plain = without_slots (n + i) (slot_width (nth_image images i).magic) bs (nth_image images i).plain }
image_bared n bs [] i lt = absurd (omega arith)
image_bared n bs (image ∷ images) zero lt = ap (λ (k : ℕ). record image { plain = without_slots k (slot_width image.magic) bs image.plain }) (omega arith)
image_bared n bs (image ∷ images) (suc i) lt =
    image_bared (n + 1) bs images i (omega arith) ∙ ap (λ (k : ℕ). record (nth_image images i) { plain = without_slots k (slot_width (nth_image images i).magic) bs (nth_image images i).plain }) (omega arith)

pub length-unbound_images : (n : ℕ) (bs : List Binding) (images : List SpaceImage) → length (unbound_images n bs images) ≡ length images
length-unbound_images n bs [] = refl
length-unbound_images n bs (image ∷ images) = let e = length-unbound_images (n + 1) bs images in omega (arith, e)
