-- The content of a space of a set, and the bytes that the set defines.
use Rattle.std.specs.Prelude.{[], ◌∷◌, ℕ, ◌+◌, ◌-◌, List, map, Option, None, Some, slice_get, if◌then◌else◌}
use Rattle.std.specs.Option.{option_map_or}
use Rattle.std.specs.List.{find}
use Rattle.pe_layout.specs.Image.{bytes_at}
use Rattle.pe_tables.specs.Relocated.{relocated_by}
use Rattle.pe_set.specs.declared.binding.Binding.{Binding}
use Rattle.pe_space.specs.Number.{digit}
use Rattle.pe_set.specs.Set.{Module}
use Rattle.pe_set.specs.Bindings.{bindings_of}
use Rattle.pe_space.specs.Content.{SpaceImage, Content, is_in, in_field, in_slot}
use Rattle.pe_space.specs.Unbound.{unbound}

-- an image as its file lays it out
abbrev pub image_content : Module → SpaceImage
image_content m = record {
  base = m.base;
  size = m.image.size;
  magic = m.magic;
  image_base = m.image.image_base;
  is_stripped = m.image.is_stripped;
  plain = bytes_at m.image 0 m.image.size;
  fixups = m.fixups;
}

-- the images as their files lay them out, and the bound slots
unfoldable pub laid_out : List Module → Content
laid_out s = record { images = map image_content s; bindings = bindings_of s }

-- the content of a space of them: their bytes, with 0 in bound slots
unfoldable pub content_of : List Module → Content
content_of s = unbound (laid_out s)

-- ---- the byte that a set defines at an address
-- byte k of the address that a slot is bound to
abbrev pub slot_byte : List Module → Binding → ℕ → ℕ
slot_byte s b k = digit (option_map_or (λ (m : Module). m.base) (slice_get s b.exporter) 0 + b.rva) k

abbrev pub byte_of_image : List Module → Module → ℕ → Option Binding → ℕ
byte_of_image s m r None = relocated_by m.image m.base r (find (in_field r) m.fixups)
byte_of_image s m r (Some b) = slot_byte s b (r - b.slot)

-- the byte of image i at an RVA: of a bound slot, or else of a field, or else as its file lays it out
abbrev pub byte_in_image : List Module → ℕ → ℕ → Module → ℕ
byte_in_image s i r m = byte_of_image s m r (find (in_slot i m.magic r) (bindings_of s))

-- the byte at an address, from the first image from number n on that contains it
abbrev pub defined_from : List Module → ℕ → List Module → ℕ → Option ℕ
defined_from s n [] address = None
defined_from s n (m ∷ ms) address =
    if is_in m.base m.image.size address then Some (byte_in_image s n (address - m.base) m) else defined_from s (n + 1) ms address

-- the byte at an address, if an image contains it
unfoldable pub defined_byte : List Module → ℕ → Option ℕ
defined_byte s address = defined_from s 0 s address
