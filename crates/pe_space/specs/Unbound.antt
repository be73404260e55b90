-- A content with 0 in the bytes of its bound slots, so that contents that differ only there become equal.
use Rattle.std.specs.Prelude.{ℕ, ◌+◌, ◌==◌, if◌then◌else◌, List, [], ◌∷◌, map}
use Rattle.pe_set.specs.declared.binding.Binding.{Binding}
use Rattle.pe_space.specs.Content.{SpaceImage, Content, slot_width}
use Rattle.pe_space.specs.Memory.{patch, bytes}

-- the bytes with 0 in the slots of image j
abbrev pub without_slots : ℕ → ℕ → List Binding → List ℕ → List ℕ
without_slots j width [] xs = xs
without_slots j width (b ∷ bs) xs = without_slots j width bs (if b.image == j then patch xs b.slot (bytes width 0) else xs)

abbrev pub unbound_images : ℕ → List Binding → List SpaceImage → List SpaceImage
unbound_images j bs [] = []
unbound_images j bs (image ∷ images) = record image { plain = without_slots j (slot_width image.magic) bs image.plain } ∷ unbound_images (j + 1) bs images

-- the content that a space keeps
abbrev pub unbound : Content → Content
unbound s = record s { images = unbound_images 0 s.bindings s.images }

-- the same files at other bases
abbrev pub images_at : List ℕ → List SpaceImage → List SpaceImage
images_at [] images = images
images_at (base ∷ bases) [] = []
images_at (base ∷ bases) (image ∷ images) = record image { base = base } ∷ images_at bases images

abbrev pub set_at : List ℕ → Content → Content
set_at bases s = record s { images = images_at bases s.images }

-- the bases of a content's images
abbrev pub bases_of : Content → List ℕ
bases_of c = map (λ (image : SpaceImage). image.base) c.images
