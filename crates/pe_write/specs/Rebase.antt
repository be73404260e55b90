-- The file of an image for another base.
use Rattle.std.specs.Prelude.{◌≡◌, false, ℕ, ℤ, pos, ◌+◌, ◌-◌, ◌-ℤ◌, ◌&&◌, Bool, nat_le, find, List, [], ◌∷◌, Option, None, Some}
use Rattle.pe_view.specs.Number.{is_in}
use Rattle.pe_head.specs.declared.section.SectionHeader.{SectionHeader}
use Rattle.pe_head.specs.declared.headers.Headers.{Headers}
use Rattle.pe_head.specs.Head.{head_of}
use Rattle.pe_head.specs.Optional.{image_base_offset, image_base_width}
use Rattle.pe_head.specs.Section.{rawlen}
use Rattle.pe_layout.specs.Image.{image_of_file}
use Rattle.pe_tables.specs.Fixups.{width_of, fixups_of}
use Rattle.pe_tables.specs.Patch.{patch, bytes, shifted_at}
use Rattle.pe_tables.specs.declared.fixups.Fixup.{Fixup}

-- `len` bytes at an RVA are completely inside the section's raw data
abbrev pub keeps : ℕ → ℕ → SectionHeader → Bool
keeps r len s = nat_le s.virtual_address r && nat_le (r + len) (s.virtual_address + rawlen s)

-- the section whose raw data contains a field
abbrev pub raw_section : Headers → Fixup → Option SectionHeader
raw_section h f = find (keeps f.field (width_of f.kind)) h.sections.items

abbrev pub place_in : ℕ → Option SectionHeader → ℕ
place_in r None = 0
place_in r (Some s) = s.pointer_to_raw_data + (r - s.virtual_address)

-- the file offset of a field
abbrev pub place_of : Headers → Fixup → ℕ
place_of h f = place_in f.field (raw_section h f)

-- the file offsets of the fields ImageBase and CheckSum
abbrev pub image_base_place : Headers → ℕ
image_base_place h = h.pe_offset + 24 + image_base_offset h.magic

abbrev pub check_sum_place : Headers → ℕ
check_sum_place h = h.pe_offset + 24 + 64

-- with the lowest `width` bytes of a value at a place
abbrev pub put : List ℕ → ℕ → ℕ → ℕ → List ℕ
put xs at width v = patch xs at (bytes width v)

-- with the base as ImageBase, and 0 as CheckSum
unfoldable pub put_header : Headers → ℕ → List ℕ → List ℕ
put_header h base xs = put (put xs (image_base_place h) (image_base_width h.magic) base) (check_sum_place h) 4 0

-- with every field relocated by d, in order
abbrev pub moved_all : Headers → ℤ → List Fixup → List ℕ → List ℕ
moved_all h d [] xs = xs
moved_all h d (f ∷ fs) xs = moved_all h d fs (shifted_at d f.kind (place_of h f) xs)

-- the file for the base: its fields relocated from ImageBase to it, and the base in its headers
unfoldable pub rebased : List ℕ → ℕ → List ℕ
rebased file base =
    let h = head_of file in
    moved_all h (pos base -ℤ pos h.image_base) (fixups_of (image_of_file 0 file)) (put_header h base file)

-- the headers of the file for the base
abbrev pub rebased_head : Headers → ℕ → Headers
rebased_head h base = record h { image_base = base; check_sum = 0 }

-- an offset is outside ImageBase and CheckSum
pub record IsFree (h : Headers) (o : ℕ) : Type 0 where
  pub image_base : is_in (image_base_place h) (image_base_width h.magic) o ≡ false
  pub check_sum : is_in (check_sum_place h) 4 o ≡ false
