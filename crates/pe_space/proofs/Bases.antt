-- The content of a set at other bases.
use Rattle.std.proofs.Common.{◌≡◌, ◌∙◌, ℕ, zero, suc, List, [], ◌∷◌, length, map, refl, sym, ap}
use Rattle.std.proofs.lemmas.List.FromFn.{length-map-range_with_len}
use Rattle.pe_set.specs.Bindings.{bindings_of}
use Rattle.pe_set.specs.Set.{Module, rebased}
use Rattle.pe_set.specs.Sound.{IsSound}
use Rattle.pe_set.specs.declared.binding.Binding.{Binding}
use Rattle.pe_space.specs.Unbound.{unbound, images_at, set_at}
use Rattle.pe_space.specs.Content.{SpaceImage, Content, nth_image, byte_at}
use Rattle.pe_space.specs.SetContent.{image_content, laid_out, content_of, defined_byte}
use Rattle.pe_space.proofs.Accepting.{fields_and_slots, fields_inside}
use Rattle.pe_space.proofs.Unbinding.{content_at_bases}
use Rattle.pe_space.proofs.Defining.{address_same, laid_defined}

images_rebased : (bases : List ℕ) (s : List Module) → map image_content (rebased bases s) ≡ images_at bases (map image_content s)
images_rebased [] s = refl
images_rebased (base ∷ bases) [] = refl
images_rebased (base ∷ bases) (m ∷ s) = ap (λ (is : List SpaceImage). record (image_content m) { base = base } ∷ is) (images_rebased bases s)

-- the same images at other bases, bound to the same exports
laid_at : (bases : List ℕ) (s t : List Module) → t ≡ rebased bases s → bindings_of t ≡ bindings_of s → set_at bases (laid_out s) ≡ laid_out t
unfolding laid_out
laid_at bases s t images bound =
    ap (λ (is : List SpaceImage). record { images = is; bindings = bindings_of s }) (sym (images_rebased bases s) ∙ ap (map image_content) (sym images))
    ∙ ap (λ (bs : List Binding). record { images = map image_content t; bindings = bs }) (sym bound)

pub content_at : (bases : List ℕ) (s t : List Module) → t ≡ rebased bases s → bindings_of t ≡ bindings_of s → set_at bases (content_of s) ≡ content_of t
unfolding content_of
content_at bases s t images bound = content_at_bases bases (laid_out s) ∙ ap unbound (laid_at bases s t images bound)

whole_from : (s : List Module) (j : ℕ) → length (nth_image (map image_content s) j).plain ≡ (nth_image (map image_content s) j).size
whole_from [] j = refl
whole_from (m ∷ s) zero = length-map-range_with_len m.image.byte 0 m.image.size
whole_from (m ∷ s) (suc j) = whole_from s j

pub whole_at : (s : List Module) (j : ℕ) → length (nth_image (laid_out s).images j).plain ≡ (nth_image (laid_out s).images j).size
unfolding laid_out
whole_at s j = whole_from s j

-- the content has at each address the byte that the set defines there
pub bytes_defined : (s : List Module) (a : ℕ) → IsSound s → byte_at (content_of s) a ≡ defined_byte s a
unfolding content_of
bytes_defined s a sound = address_same (laid_out s) a (fields_and_slots s sound) (whole_at s) ∙ laid_defined s (fields_inside s sound) a

pub bytes_at_bases : (bases : List ℕ) (s t : List Module) (a : ℕ) → t ≡ rebased bases s → bindings_of t ≡ bindings_of s → IsSound t → byte_at (set_at bases (content_of s)) a ≡ defined_byte t a
bytes_at_bases bases s t a images bound sound = ap (λ (c : Content). byte_at c a) (content_at bases s t images bound) ∙ bytes_defined t a sound
