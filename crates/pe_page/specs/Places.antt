-- The place of an RVA as a page shows it, and its columns.
use Rattle.std.specs.Prelude.{◌≡◌, ℕ, ◌+◌, ◌-◌, List, [], map, take, Option, None, Some, codes, slice_get}
use denote.Bor.{Bor}
use Rattle.coff_read.specs.ImageNames.{section_name}
use Rattle.pe_head.specs.declared.headers.Headers.{Headers}
use Rattle.pe_head.specs.declared.section.SectionHeader.{SectionHeader}
use Rattle.pe_layout.specs.declared.locate.Located.{Located}
use Rattle.pe_layout.specs.declared.locate.Located.TheVariants.{Header, Raw, Zero, Gap, Outside}
use Rattle.pe_text.specs.Text.{hex_width}
use Rattle.pe_page.specs.Name.{section_columns}
use Rattle.pe_page.specs.declared.place.SectionPlace.{SectionPlace}

-- ---- the names of sections
-- the names of sections in an image with this string table or none, of each as much as decides how it is shown
abbrev pub names_of : Option (List ℕ) → List SectionHeader → List (List ℕ)
names_of strings sections = map (λ (section : SectionHeader). take 41 (section_name strings section.name)) sections

-- ---- the place of an RVA
abbrev text_of : Option (Bor (List ℕ)) → List ℕ
text_of None = []
text_of (Some name) = name.now

-- the name of the section with an index
abbrev pub name_at : List (Bor (List ℕ)) → ℕ → List ℕ
name_at names section = text_of (slice_get names section)

abbrev address_of : Option SectionHeader → ℕ
address_of None = 0
address_of (Some section) = section.virtual_address

-- the RVA of the first byte of the section with an index
abbrev pub start_at : Headers → ℕ → ℕ
start_at h section = address_of (slice_get h.sections.items section)

-- a place: its name, and the offsets in its piece and in the file, if it has them
pub record IsPlace (place : SectionPlace) (name : List ℕ) (offset file : Option ℕ) : Type 0 where
  pub is_named : place.name.now ≡ name
  pub is_behind : place.offset ≡ offset
  pub is_in_file : place.file ≡ file

-- the place of an RVA, by what is there and the names of the sections
abbrev pub IsPlaceOf : List (Bor (List ℕ)) → Headers → ℕ → Located → SectionPlace → Type 0
IsPlaceOf names h rva (Raw section file) place = IsPlace place (name_at names section) (Some (rva - start_at h section)) (Some file)
IsPlaceOf names h rva (Zero section) place = IsPlace place (name_at names section) (Some (rva - start_at h section)) None
IsPlaceOf names h rva (Header file) place = IsPlace place (codes "headers") (Some rva) (Some file)
IsPlaceOf names h rva Gap place = IsPlace place (codes "no section") None None
IsPlaceOf names h rva Outside place = IsPlace place (codes "outside the image") None None

-- ---- columns
-- how many columns the offset of a place takes, including `+0x`
abbrev pub offset_columns : Option ℕ → ℕ
offset_columns None = 0
offset_columns (Some offset) = 3 + hex_width offset

-- how many columns a place takes
abbrev pub place_columns : SectionPlace → ℕ
place_columns place = section_columns place.name.now + offset_columns place.offset
