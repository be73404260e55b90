-- The images of the space of an accepted set are apart, so that each is a window.
use Rattle.std.proofs.Common.{◌≡◌, ◌∙◌, ℕ, zero, suc, ◌+◌, ◌%◌, ◌<◌, ◌≤◌, ◌^◌, Bool, false, cond, List, [], ◌∷◌, length, map, refl, sym, ap, subst, arith, Some, Ok, Err, inl, inr}
use Rattle.std.specs.Prelude.{◌==◌, slice_get}
use Rattle.std.proofs.lemmas.Simd.{map-map}
use Rattle.std.proofs.lemmas.List.{length-map}
use Rattle.std.proofs.lemmas.Bool.{cases_lt, le-leb, ne_eqb}
use Rattle.std.proofs.lemmas.Option.{same_Some}
use Rattle.pe_set.specs.Placement.{Placement, address_limit, placement_at}
use Rattle.pe_set.specs.Set as sets
use Rattle.pe_set.specs.Set.{Module}
use Rattle.pe_set.specs.Sound.{IsSound}
use Rattle.pe_set.specs.Bindings.{bindings_of}
use Rattle.pe_set.specs.declared.binding.Binding.{Binding}
use Rattle.pe_space.specs.Content.{SpaceImage, Content, placement_of, nth_image, no_image, holder_from, bytes_from, window_fault, window_image_by, window_image, window_in, window_at}
use Rattle.pe_space.specs.ImagesApart.{ImagesApart}
use Rattle.pe_space.specs.SetContent.{image_content, laid_out, content_of}
use Rattle.pe_space.specs.FieldsAndSlots.{Apart}
use Rattle.pe_space.proofs.Accepting.{placed}
use Rattle.pe_space.proofs.Addressing.{Holds, holder_is, placed_at}
use Rattle.pe_space.proofs.Defining.{placements_bared}
use Rattle.pe_space.proofs.SlotsAndFields.{true-is_in}

-- ---- the places of the images
pub placements_kept : (s : List Module) → map placement_of (content_of s).images ≡ map sets.placement_of s
unfolding content_of laid_out
placements_kept s = placements_bared 0 (bindings_of s) (map image_content s) ∙ map-map placement_of image_content s

pub bindings_kept : (s : List Module) → (content_of s).bindings ≡ bindings_of s
unfolding content_of laid_out
bindings_kept s = refl

placements_laid : (s : List Module) → map placement_of (laid_out s).images ≡ map sets.placement_of s
unfolding laid_out
placements_laid s = map-map placement_of image_content s

bindings_laid : (s : List Module) → (laid_out s).bindings ≡ bindings_of s
unfolding laid_out
bindings_laid s = refl

-- whether images have valid places depends only on their placements and bindings
placed_alike : (c d : Content) → map placement_of c.images ≡ map placement_of d.images → c.bindings ≡ d.bindings → ImagesApart d → ImagesApart c
placed_alike c d same bound all =
    let at : (j : ℕ) → placement_of (nth_image c.images j) ≡ placement_of (nth_image d.images j) =
    λ j. sym (placed_at c.images j) ∙ ap (λ (ps : List Placement). placement_at ps j) same ∙ placed_at d.images j in
    let count : length c.images ≡ length d.images = sym (length-map c.images placement_of) ∙ ap length same ∙ length-map d.images placement_of in
    let few = all.few in
    record {
      few = omega (arith, few, count);
      few_slots = subst (λ (bs : List Binding). length bs < 2 ^ 32) (sym bound) all.few_slots;
      aligned = λ j. subst (λ (p : Placement). p.base % 65536 ≡ 0) (sym (at j)) (all.aligned j);
      room = λ j. subst (λ (p : Placement). p.base + p.size ≤ address_limit p.magic) (sym (at j)) (all.room j);
      some = λ j lt. subst (λ (p : Placement). 0 < p.size) (sym (at j)) (all.some j (omega (arith, lt, count)));
      apart = λ j k lt lt' ne.
          subst (λ (p : Placement). Apart p.base p.size (nth_image c.images k).base (nth_image c.images k).size) (sym (at j))
          (subst (λ (q : Placement). Apart (nth_image d.images j).base (nth_image d.images j).size q.base q.size) (sym (at k)) (all.apart j k (omega (arith, lt, count)) (omega (arith, lt', count)) ne));
    }

pub placed_kept : (s : List Module) → IsSound s → ImagesApart (content_of s)
placed_kept s sound =
    placed_alike (content_of s) (laid_out s) (placements_kept s ∙ sym (placements_laid s)) (bindings_kept s ∙ sym (bindings_laid s)) (placed s sound)

-- the place of the image of a module
placement_got : (s : List Module) (j : ℕ) (m : Module) → slice_get s j ≡ Some m → placement_at (map sets.placement_of s) j ≡ sets.placement_of m
placement_got [] j m at = absurd cc
placement_got (x ∷ s) zero m at = ap sets.placement_of (same_Some x m at)
placement_got (x ∷ s) (suc j) m at = placement_got s j m at

pub image_kept : (s : List Module) (j : ℕ) (m : Module) → slice_get s j ≡ Some m → placement_of (nth_image (content_of s).images j) ≡ sets.placement_of m
image_kept s j m at = sym (placed_at (content_of s).images j) ∙ ap (λ (ps : List Placement). placement_at ps j) (placements_kept s) ∙ placement_got s j m at

-- ---- windows
pub not_empty : (n : ℕ) → (suc n == 0) ≡ false
not_empty n = ne_eqb (suc n) 0 (λ is. absurd (omega (arith, is)))

-- a window in the image that contains its first address
pub given : (c : Content) (a n j : ℕ) → holder_from 0 c.images a ≡ Some j → a + suc n ≤ (nth_image c.images j).base + (nth_image c.images j).size → window_at c a (suc n) ≡ Ok (bytes_from c a (suc n))
given c a n j held fits =
    let ps = map placement_of c.images in
    let end : a + suc n ≤ (placement_at ps j).base + (placement_at ps j).size = subst (λ (p : Placement). a + suc n ≤ p.base + p.size) (sym (placed_at c.images j)) fits in
    let image : window_image ps a (suc n) ≡ Ok j =
    ap (window_image_by ps a (suc n)) held ∙ ap (λ (t : Bool). cond t (Ok j) (Err (window_fault j a))) (le-leb _ _ end) in
    ap (λ (t : Bool). cond t (Ok []) (window_in c a (suc n) (window_image ps a (suc n)))) (not_empty n) ∙ ap (window_in c a (suc n)) image

past_images : (images : List SpaceImage) (j : ℕ) → length images ≤ j → nth_image images j ≡ no_image
past_images [] j le = refl
past_images (m ∷ images) zero le = absurd (omega arith)
past_images (m ∷ images) (suc j) le = past_images images j (omega arith)

-- an image that has bytes is there
is_there : (images : List SpaceImage) (j : ℕ) → 0 < (nth_image images j).size → j < length images
is_there images j some = elim (cases_lt j (length images)) [
  | inl lt ↦ lt
  | inr past ↦ (let none = ap (λ (image : SpaceImage). image.size) (past_images images j past) in absurd (omega (arith, none, some)))
]

-- each part of an image is a window
pub part_of : (c : Content) → ImagesApart c → (j k n : ℕ) → k + n ≤ (nth_image c.images j).size
    → window_at c ((nth_image c.images j).base + k) n ≡ Ok (bytes_from c ((nth_image c.images j).base + k) n)
part_of c all j k zero fits = refl
part_of c all j k (suc n) fits =
    let i = nth_image c.images j in
    let holds : Holds c.images (i.base + k) j = (is_there c.images j (omega (arith, fits)), true-is_in i.base i.size (i.base + k) (omega arith) (omega (arith, fits))) in
    given c (i.base + k) n j (holder_is c (i.base + k) j all holds) (omega (arith, fits))
