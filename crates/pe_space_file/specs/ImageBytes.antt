-- The bytes of images as they stand in their space.
use Rattle.std.specs.Prelude.{ℕ, List}
use Rattle.std.specs.List.{sum_by}
use Rattle.pe_space.specs.Content.{SpaceImage, Content, nth_image, bytes_from}

-- the bytes of the image with a number, at the addresses from its base on; none if there is no such image
abbrev pub image_bytes : Content → ℕ → List ℕ
image_bytes c number = bytes_from c (nth_image c.images number).base (nth_image c.images number).size

-- the sizes of all images together
abbrev pub total_size : Content → ℕ
total_size c = sum_by (λ (image : SpaceImage). image.size) c.images
