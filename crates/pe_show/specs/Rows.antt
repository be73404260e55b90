-- The frequent rows of a page, part by part. No contract of a public function uses this module.
use Rattle.std.specs.Prelude.{ℕ, ◌-◌, ◌*◌, ◌/◌, ◌%◌, ◌==◌, min, if◌then◌else◌, List, [], ◌∷◌, ◌++◌, length, replicate, Option, None, Some, codes, decimal, flat_map}
use Rattle.pe_tables.specs.declared.fixups.Fixup.{Fixup}
use Rattle.pe_tables.specs.declared.fixups.FixupKind.{FixupKind}
use Rattle.pe_tables.specs.declared.fixups.FixupKind.TheVariants.{Bits32, Bits64, High, Low}
use Rattle.pe_tables.specs.declared.import.Import.{Import}
use Rattle.pe_tables.specs.declared.key.Key.{Key}
use Rattle.pe_tables.specs.declared.key.Key.TheVariants.{Ordinal, Name}
use Rattle.pe_text.specs.Part.{joined}
use Rattle.pe_text.specs.Text.{hex, hex_at_least}
use Rattle.pe_page.specs.Name.{name_text, section_text, section_columns}
use Rattle.pe_page.specs.declared.place.SectionPlace.{SectionPlace}
use Rattle.pe_page.specs.Rows.{blanks, right_text, column_text, key_text, place_text}
use Rattle.pe_show.specs.declared.exports.ShownTarget.{ShownTarget}
use Rattle.pe_show.specs.declared.exports.ShownTarget.TheVariants.{Here, Forward}

-- ---- exports
-- an ordinal and the place of its export, in columns of `width` and `digits`
unfoldable pub here_text : ℕ → ℕ → ℕ → ℕ → SectionPlace → List ℕ
here_text ordinal width rva digits place = joined
    (right_text ordinal width ∷ codes "  0x" ∷ hex_at_least digits rva ∷ codes "  " ∷ place_text place ∷ [])

-- an ordinal, and the module and key of its forwarder
unfoldable pub forward_text : ℕ → ℕ → List ℕ → Key → List ℕ
forward_text ordinal width dll key = joined
    (right_text ordinal width ∷ codes "  forwarded to " ∷ name_text dll ∷ codes "." ∷ key_text key ∷ [])

-- an ordinal and its target
abbrev pub target_text : ℕ → ℕ → ℕ → ShownTarget → List ℕ
target_text ordinal width digits (Here rva place) = here_text ordinal width rva digits place
target_text ordinal width digits (Forward dll key) = forward_text ordinal width dll.now key

-- a name after blanks and a gap
unfoldable pub behind_gap : ℕ → List ℕ → List ℕ → List ℕ
behind_gap count gap name = joined (blanks count ∷ gap ∷ name_text name ∷ [])

-- ---- imports
-- a slot, and the import that it is for
unfoldable pub import_row : ℕ → Import → List ℕ
import_row digits import = joined
    (codes "    0x" ∷ hex_at_least digits import.slot ∷ codes "  " ∷ key_text import.key ∷ codes "\n" ∷ [])

-- ---- base relocations
abbrev pub kind_text : FixupKind → List ℕ
kind_text Bits32 = codes "HIGHLOW"
kind_text Bits64 = codes "DIR64  "
kind_text High = codes "HIGH   "
kind_text Low = codes "LOW    "

-- the offset of a field in its page
abbrev pub field_text : Fixup → List ℕ
field_text fixup = codes " " ++ hex 3 (fixup.field % 4096)

-- fields of one kind in a page: the page, the kind, and the offset of each
unfoldable pub fields_row : ℕ → Fixup → List Fixup → List ℕ
fields_row digits first fixups = joined
    (codes "  0x" ∷ hex_at_least digits (first.field / 4096 * 4096) ∷ codes "  " ∷ kind_text first.kind ∷ codes " "
    ∷ flat_map field_text fixups ∷ codes "\n" ∷ [])

-- ---- objects
-- the name of a relocation's type, or its number
abbrev pub type_text : Option (List ℕ) → ℕ → List ℕ
type_text None kind = codes "0x" ++ hex 4 kind
type_text (Some name) kind = name

-- the name of a symbol, if it has one
abbrev pub symbol_text : Option (List ℕ) → List ℕ
symbol_text None = []
symbol_text (Some name) = codes " " ++ name_text name

-- a file offset, if there is one
abbrev pub file_text : Option ℕ → List ℕ
file_text None = []
file_text (Some offset) = codes "  file 0x" ++ hex_at_least 6 offset

-- a relocation: its offset in the section, that of its field in the file, its type by name or number, and the index of its symbol, with
-- its name if it has one
unfoldable pub relocation_row : ℕ → Option ℕ → Option (List ℕ) → ℕ → ℕ → Option (List ℕ) → List ℕ
relocation_row address file type_name kind index symbol = joined
    (codes "    0x" ∷ hex_at_least 6 address ∷ file_text file ∷ codes "  " ∷ type_text type_name kind ∷ codes "  #" ∷ decimal index
    ∷ symbol_text symbol ∷ codes "\n" ∷ [])

-- the name of a storage class, or its number, in 13 columns
abbrev pub class_text : Option (List ℕ) → ℕ → List ℕ
class_text None class = codes "class " ++ right_text class 7
class_text (Some name) class = column_text name 13

-- whether a symbol is a function
abbrev pub function_text : ℕ → List ℕ
function_text kind = if kind == 0x20 then codes "  function  " else codes "            "

-- the number of a symbol's section in a column of its own, or blanks
abbrev pub number_text : Option ℕ → ℕ → List ℕ
number_text None width = blanks width
number_text (Some number) width = right_text number width

-- a symbol: the index of its record, value, section by number and name, class by name or number, whether it is a function, and name
unfoldable pub symbol_row : ℕ → ℕ → ℕ → Option ℕ → ℕ → List ℕ → Option (List ℕ) → ℕ → ℕ → List ℕ → List ℕ
symbol_row index width value number digits section class_name class kind name = joined
    (right_text index width ∷ codes "  0x" ∷ hex 8 value ∷ codes "  " ∷ number_text number digits ∷ codes " " ∷ column_text section 12
    ∷ codes "  " ∷ class_text class_name class ∷ function_text kind ∷ name_text name ∷ codes "\n" ∷ [])
