-- The parts of the rows of a page.
use Rattle.std.specs.Prelude.{ℕ, ◌-◌, ◌==◌, min, bit_and, if◌then◌else◌, List, [], ◌∷◌, ◌++◌, length, replicate, Option, None, Some, codes, decimal}
use Rattle.pe_tables.specs.declared.key.Key.{Key}
use Rattle.pe_tables.specs.declared.key.Key.TheVariants.{Ordinal, Name}
use Rattle.pe_text.specs.Text.{hex_at_least}
use Rattle.pe_page.specs.Name.{name_text, section_text, section_columns}
use Rattle.pe_page.specs.declared.place.SectionPlace.{SectionPlace}

-- a number of blanks, at most 256
abbrev pub blanks : ℕ → List ℕ
blanks count = replicate (min count 256) 0x20

-- a number in decimal, padded with blanks on the left to a width
abbrev pub right_text : ℕ → ℕ → List ℕ
right_text number width = blanks (width - length (decimal number)) ++ decimal number

-- the name of a section or a short word, padded with blanks to a width
abbrev pub column_text : List ℕ → ℕ → List ℕ
column_text name width = section_text name ++ blanks (width - section_columns name)

-- a letter if a flag is set, otherwise `-`
abbrev permission : ℕ → ℕ → ℕ → ℕ
permission flags flag letter = if bit_and flags flag == 0 then 0x2d else letter

-- `r`, `w` and `x` of a section: IMAGE_SCN_MEM_READ, IMAGE_SCN_MEM_WRITE and IMAGE_SCN_MEM_EXECUTE
abbrev pub permissions : ℕ → List ℕ
permissions flags = permission flags 0x4000_0000 0x72 ∷ permission flags 0x8000_0000 0x77 ∷ permission flags 0x2000_0000 0x78 ∷ []

-- a name, or `#` and an ordinal
unfoldable pub key_text : Key → List ℕ
key_text (Ordinal ordinal) = codes "#" ++ decimal ordinal
key_text (Name name) = name_text name.now

abbrev offset_text : Option ℕ → List ℕ
offset_text None = []
offset_text (Some offset) = codes "+0x" ++ hex_at_least 1 offset

-- the place of an RVA: a section's name or another word, and the offset in it
unfoldable pub place_text : SectionPlace → List ℕ
place_text place = section_text place.name.now ++ offset_text place.offset
