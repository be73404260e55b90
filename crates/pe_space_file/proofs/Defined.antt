-- The bytes of an image are a window of the space, whose bytes are those that the set defines.
use Rattle.std.proofs.Common.{◌≡◌, ◌∙◌, ◌+◌, ◌<◌, ℕ, Some, Ok, Option, List, length, sym, ap, subst, arith}
use Rattle.std.specs.Prelude.{slice_get, slice_index}
use Rattle.pe_set.specs.Placement.{Placement}
use Rattle.pe_set.specs.Set.{Module}
use Rattle.pe_set.specs.Sound.{IsSound}
use Rattle.pe_space.specs.Content.{Content, bytes_from, byte_at, nth_image, window_at}
use Rattle.pe_space.specs.SetContent.{content_of, defined_byte}
use Rattle.pe_space_file.specs.ImageBytes.{image_bytes}
use Rattle.pe_space_file.proofs.Placed.{image_kept, part_of, placed_kept}

module _ (s : List Module) (j : ℕ) (sound : IsSound s) where
  -- the bytes of an image are a window
  whole : window_at (content_of s) (nth_image (content_of s).images j).base (nth_image (content_of s).images j).size ≡ Ok (image_bytes (content_of s) j)
  whole =
      let i = nth_image (content_of s).images j in
      let first : i.base + 0 ≡ i.base = omega arith in
      subst (λ (a : ℕ). window_at (content_of s) a i.size ≡ Ok (bytes_from (content_of s) a i.size)) first (part_of (content_of s) (placed_kept s sound) j 0 i.size (omega arith))

  module _ (m : Module) (at : slice_get s j ≡ Some m) where
    base_is : (nth_image (content_of s).images j).base ≡ m.base
    base_is = ap (λ (p : Placement). p.base) (image_kept s j m at)

    size_is : (nth_image (content_of s).images j).size ≡ m.image.size
    size_is = ap (λ (p : Placement). p.size) (image_kept s j m at)

    -- as many as SizeOfImage
    pub as_many : ((c : Content) (a n : ℕ) (bytes : List ℕ) → window_at c a n ≡ Ok bytes → length bytes ≡ n) → length (image_bytes (content_of s) j) ≡ m.image.size
    as_many count = count (content_of s) _ _ _ whole ∙ size_is

    pub each_defined : ((c : Content) (a n k : ℕ) (bytes : List ℕ) → window_at c a n ≡ Ok bytes → k < n → byte_at c (a + k) ≡ Some (slice_index bytes k))
        → ((a : ℕ) → byte_at (content_of s) a ≡ defined_byte s a) → (k : ℕ) → k < m.image.size → defined_byte s (m.base + k) ≡ Some (slice_index (image_bytes (content_of s) j) k)
    each_defined each bytes k lt =
        let size = size_is in
        let below : k < (nth_image (content_of s).images j).size = omega (arith, size, lt) in
        let byte = each (content_of s) _ _ k _ whole below in
        sym (bytes (m.base + k)) ∙ subst (λ (b : ℕ). byte_at (content_of s) (b + k) ≡ Some (slice_index (image_bytes (content_of s) j) k)) base_is byte
