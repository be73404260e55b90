-- The content of a space of images, however it stores their bytes: the byte at each address.
use Rattle.std.specs.Prelude.{ℕ, zero, suc, ◌+◌, ◌-◌, Bool, false, ◌&&◌, nat_le, ◌==◌, if◌then◌else◌, pos, ◌-ℤ◌, List, [], ◌∷◌, map, slice_index, slice_index_or, slice_get, Option, None, Some, unwrap_or, Result, Ok, Err}
use Rattle.std.specs.Option.{option_map}
use Rattle.std.specs.List.{find}
use Rattle.pe_view.specs.declared.fault.Fault.{Fault}
use Rattle.pe_view.specs.declared.fault.Place.TheVariants.{Address}
pub use Rattle.pe_view.specs.Number.{is_in}
use Rattle.pe_head.specs.declared.optional.Magic.{Magic}
use Rattle.pe_head.specs.declared.optional.Magic.TheVariants.{Pe32}
pub use Rattle.pe_layout.specs.Image.{slot_width_of as slot_width}
use Rattle.pe_tables.specs.declared.fixups.Fixup.{Fixup}
pub use Rattle.pe_tables.specs.Fixups.{width_of}
pub use Rattle.pe_tables.specs.Relocated.{in_field}
use Rattle.pe_set.specs.Placement.{Placement, placement_at}
use Rattle.pe_set.specs.declared.binding.Binding.{Binding}
use Rattle.pe_space.specs.Number.{digit, number_in, shift}

-- one image: its base, facts from its headers, its bytes before any fixup, and its fixups
pub record SpaceImage : Type 0 where
  pub base : ℕ
  pub size : ℕ
  pub magic : Magic
  pub image_base : ℕ
  pub is_stripped : Bool
  pub plain : List ℕ
  pub fixups : List Fixup

-- the images, and the bound slots, by image and then in import order
pub record Content : Type 0 where
  pub images : List SpaceImage
  pub bindings : List Binding

abbrev pub placement_of : SpaceImage → Placement
placement_of i = record { base = i.base; size = i.size; magic = i.magic; image_base = i.image_base; is_stripped = i.is_stripped }

-- an RVA of image j, which has this Magic, is inside a bound slot
abbrev pub in_slot : ℕ → Magic → ℕ → Binding → Bool
in_slot j magic r b = (b.image == j) && is_in b.slot (slot_width magic) r

-- no image
abbrev pub no_image : SpaceImage
no_image = record { base = 0; size = 0; magic = Pe32; image_base = 0; is_stripped = false; plain = []; fixups = [] }

abbrev pub nth_image : List SpaceImage → ℕ → SpaceImage
nth_image images j = slice_index_or images j no_image

-- the byte of an image at an RVA outside its bound slots: of a relocated field, or else the plain byte
abbrev pub fixed_byte : SpaceImage → ℕ → Option Fixup → ℕ
fixed_byte image r None = slice_index image.plain r
fixed_byte image r (Some f) = digit (shift f.kind (number_in image.plain f.field (width_of f.kind)) (pos image.base -ℤ pos image.image_base)) (r - f.field)

abbrev pub byte_by : Content → ℕ → ℕ → Option Binding → ℕ
byte_by c j r None = fixed_byte (nth_image c.images j) r (find (in_field r) (nth_image c.images j).fixups)
byte_by c j r (Some b) = digit ((nth_image c.images b.exporter).base + b.rva) (r - b.slot)

-- the byte of image j at an RVA: of the address in a bound slot, or else as above
abbrev pub byte_in : Content → ℕ → ℕ → ℕ
byte_in c j r = byte_by c j r (find (in_slot j (nth_image c.images j).magic r) c.bindings)

-- the number of the image that contains an address, among images numbered from n on
abbrev pub placed_from : ℕ → List Placement → ℕ → Option ℕ
placed_from n [] a = None
placed_from n (p ∷ ps) a = if is_in p.base p.size a then Some n else placed_from (n + 1) ps a

-- the base and the size of the image with a number, if there is one
abbrev pub base_in : List Placement → ℕ → Option ℕ
base_in ps i = option_map (λ (p : Placement). p.base) (slice_get ps i)

abbrev pub size_in : List Placement → ℕ → Option ℕ
size_in ps i = option_map (λ (p : Placement). p.size) (slice_get ps i)

abbrev pub holder_from : ℕ → List SpaceImage → ℕ → Option ℕ
holder_from n images a = placed_from n (map placement_of images) a

abbrev pub byte_held : Content → ℕ → Option ℕ → Option ℕ
byte_held c a None = None
byte_held c a (Some j) = Some (byte_in c j (a - (nth_image c.images j).base))

-- the byte at an address, if an image contains it
abbrev pub byte_at : Content → ℕ → Option ℕ
byte_at c a = byte_held c a (holder_from 0 c.images a)

abbrev pub base_at : Content → ℕ → Option ℕ
base_at c i = base_in (map placement_of c.images) i

abbrev pub size_at : Content → ℕ → Option ℕ
size_at c i = size_in (map placement_of c.images) i

-- ---- windows
-- n bytes from an address on
abbrev pub bytes_from : Content → ℕ → ℕ → List ℕ
bytes_from c a zero = []
bytes_from c a (suc n) = unwrap_or (byte_at c a) 0 ∷ bytes_from c (a + 1) n

-- fault 54 of image i, which contains the address
abbrev pub window_fault : ℕ → ℕ → Fault
window_fault i a = record { number = 54; image = i; place = Address a }

-- the image that fault 54 names if none contains the address
abbrev pub nowhere : ℕ
nowhere = 65535

-- the image that contains n bytes from an address on, given the image that contains the address
abbrev pub window_image_by : List Placement → ℕ → ℕ → Option ℕ → Result ℕ Fault
window_image_by ps a n None = Err (window_fault nowhere a)
window_image_by ps a n (Some j) = if nat_le (a + n) ((placement_at ps j).base + (placement_at ps j).size) then Ok j else Err (window_fault j a)

abbrev pub window_image : List Placement → ℕ → ℕ → Result ℕ Fault
window_image ps a n = window_image_by ps a n (placed_from 0 ps a)

-- the same, for the images of a content
abbrev pub image_at : Content → ℕ → ℕ → Result ℕ Fault
image_at c a n = window_image (map placement_of c.images) a n

abbrev pub window_in : Content → ℕ → ℕ → Result ℕ Fault → Result (List ℕ) Fault
window_in c a n (Ok j) = Ok (bytes_from c a n)
window_in c a n (Err fault) = Err fault

-- the bytes of a window, which is empty or inside one image
abbrev pub window_at : Content → ℕ → ℕ → Result (List ℕ) Fault
window_at c a n = if n == 0 then Ok [] else window_in c a n (image_at c a n)
