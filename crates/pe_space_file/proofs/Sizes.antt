-- Where images are, and their sizes.
use Rattle.std.proofs.Common.{◌≡◌, ℕ, zero, suc, List, [], ◌∷◌, map, refl}
use Rattle.std.specs.Prelude.{unwrap_or}
use Rattle.pe_space.specs.Content.{SpaceImage, placement_of, nth_image, base_in, size_in}

pub base_is : (images : List SpaceImage) (j : ℕ) → unwrap_or (base_in (map placement_of images) j) 0 ≡ (nth_image images j).base
base_is [] j = refl
base_is (m ∷ images) zero = refl
base_is (m ∷ images) (suc j) = base_is images j

pub size_is : (images : List SpaceImage) (j : ℕ) → unwrap_or (size_in (map placement_of images) j) 0 ≡ (nth_image images j).size
size_is [] j = refl
size_is (m ∷ images) zero = refl
size_is (m ∷ images) (suc j) = size_is images j
