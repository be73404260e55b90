-- An image with its memory. No contract of a public function uses this module.
use Rattle.std.specs.Prelude.{ℕ, pos, ◌-ℤ◌, List, map, Bool, length}
use Rattle.pe_head.specs.declared.optional.Magic.{Magic}
use Rattle.pe_tables.specs.declared.fixups.Fixup.{Fixup}
use Rattle.pe_space.specs.Content.{SpaceImage}
use Rattle.pe_space.specs.Memory.{shifted_all}

pub record InMemory : Type 0 where
  pub image : SpaceImage
  pub memory : List ℕ

-- with each field relocated to the new base
abbrev pub rebased_image : ℕ → InMemory → InMemory
rebased_image base h = record { image = record h.image { base = base }; memory = shifted_all (pos base -ℤ pos h.image.base) h.image.fixups h.memory }

abbrev pub images_of : List InMemory → List SpaceImage
images_of hs = map (λ h. h.image) hs

abbrev pub memories_of : List InMemory → List (List ℕ)
memories_of hs = map (λ h. h.memory) hs

-- an image at a base, with no slot bound yet
abbrev pub relocated_image : ℕ → Magic → ℕ → Bool → List Fixup → List ℕ → InMemory
relocated_image base magic image_base is_stripped fixups plain = record {
  image = record { base = base; size = length plain; magic = magic; image_base = image_base; is_stripped = is_stripped; plain = plain; fixups = fixups };
  memory = shifted_all (pos base -ℤ pos image_base) fixups plain;
}
