-- The section table's rows in a line of JSON.
use Rattle.std.specs.Prelude.{ℕ, ◌==◌, if◌then◌else◌, Bool, true, false, List, [], ◌∷◌, ◌++◌, codes, Option}
use Rattle.std.specs.Cmp.Lexicographic.{pointwise}
use Rattle.std.specs.Prelude.{nat_eq}
use Rattle.pe_head.specs.declared.names.FlagKind.TheVariants.{Section}
use Rattle.pe_head.specs.declared.section.SectionHeader.{SectionHeader}
use Rattle.coff_read.specs.ImageNames.{section_name}
use Rattle.pe_json.specs.JsonText.{object, list, number, name, numbered_rows}
use Rattle.pe_json.specs.Flags.{flags_member}

-- a byte and those that are kept of the bytes after it: it is left out if it is zero and none of them is kept
abbrev pub kept : ℕ → List ℕ → List ℕ
kept byte [] = if byte == 0 then [] else (byte ∷ [])
kept byte (next ∷ bytes) = byte ∷ next ∷ bytes

-- bytes without the zero bytes at their end
abbrev pub without_zeros : List ℕ → List ℕ
without_zeros [] = []
without_zeros (byte ∷ bytes) = kept byte (without_zeros bytes)

abbrev pub is_same : List ℕ → List ℕ → Bool
is_same = pointwise nat_eq

-- the short name, unless it is the name
abbrev pub short_unless : Bool → List ℕ → List (List ℕ)
short_unless true field = []
short_unless false field = name (codes "short_name") field ∷ []

unfoldable pub short_name : List ℕ → List ℕ → List (List ℕ)
short_name text field = short_unless (is_same (without_zeros field) text) (without_zeros field)

unfoldable pub name_members : List ℕ → List (List ℕ)
name_members text = name (codes "name") text ∷ []

-- the fields of a section header after its name
unfoldable pub section_fields : SectionHeader → List (List ℕ)
section_fields s =
    number (codes "virtual_size") s.virtual_size
    ∷ number (codes "virtual_address") s.virtual_address
    ∷ number (codes "size_of_raw_data") s.size_of_raw_data
    ∷ number (codes "pointer_to_raw_data") s.pointer_to_raw_data
    ∷ number (codes "pointer_to_relocations") s.pointer_to_relocations
    ∷ number (codes "pointer_to_linenumbers") s.pointer_to_linenumbers
    ∷ number (codes "number_of_relocations") s.number_of_relocations
    ∷ number (codes "number_of_linenumbers") s.number_of_linenumbers
    ∷ number (codes "characteristics") s.characteristics
    ∷ flags_member (codes "characteristics_flags") Section s.characteristics ∷ []

-- the members of a section that has this name
abbrev pub section_members : List ℕ → SectionHeader → List (List ℕ)
section_members text s = name_members text ++ (short_name text s.name ++ section_fields s)

-- a section of an image that has this string table or none, with its index from 0
abbrev pub section_row : Option (List ℕ) → ℕ → SectionHeader → List ℕ
section_row strings index s = object (number (codes "index") index ∷ section_members (section_name strings s.name) s)

abbrev pub sections_list : Option (List ℕ) → List SectionHeader → List ℕ
sections_list strings sections = list (numbered_rows (section_row strings) 0 sections)
