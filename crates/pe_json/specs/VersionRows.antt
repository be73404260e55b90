-- The version information of an image in a line of JSON.
use Rattle.std.specs.Prelude.{ℕ, List, [], ◌∷◌, ◌++◌, codes, decimal, map, Option, None, Some}
use Rattle.pe_layout.specs.Image.{LaidOut}
use Rattle.pe_resources.specs.Single as single
use Rattle.pe_resources.specs.Texts.{data_of}
use Rattle.pe_resources.specs.declared.leaf.Leaf.{Leaf}
use Rattle.pe_version.specs.FixedInfo.{fixed_info_of, version_of}
use Rattle.pe_version.specs.Tables.{Entry, Table, tables_of}
use Rattle.pe_version.specs.declared.fixed.FixedInfo.{FixedInfo}
use Rattle.pe_json.specs.JsonText.{member, object, list, number}
use Rattle.pe_json.specs.Shown.{shown_string}
use Rattle.pe_json.specs.Utf16.{utf8_text}

-- the four numbers of a version, from the two fields that have them
abbrev pub four_numbers : ℕ → ℕ → List (List ℕ)
four_numbers high low = map decimal (version_of high low)

unfoldable pub version_numbers : FixedInfo → List (List ℕ)
version_numbers f =
    member (codes "file_version") (list (four_numbers f.file_version_high f.file_version_low))
    ∷ member (codes "product_version") (list (four_numbers f.product_version_high f.product_version_low)) ∷ []

unfoldable pub kind_numbers : FixedInfo → List (List ℕ)
kind_numbers f =
    number (codes "flags_mask") f.flags_mask
    ∷ (number (codes "flags") f.flags
    ∷ (number (codes "system") f.system ∷ (number (codes "type") f.kind ∷ (number (codes "subtype") f.subkind ∷ []))))

-- the fixed part, if there is one
abbrev pub fixed_members : Option FixedInfo → List (List ℕ)
fixed_members None = []
fixed_members (Some f) = version_numbers f ++ kind_numbers f

-- a text in UTF-16 as a string
abbrev pub units_member : List ℕ → List ℕ → List ℕ
units_member key units = member key (shown_string (utf8_text units))

abbrev pub string_row : Entry → List ℕ
string_row s = object (units_member (codes "key") s.key ∷ (units_member (codes "value") s.value ∷ []))

-- a string table: its key, and its strings
abbrev pub table_row : Table → List ℕ
table_row t = object (units_member (codes "key") t.key ∷ (member (codes "strings") (list (map string_row t.strings)) ∷ []))

unfoldable pub tables_member : List Table → List (List ℕ)
tables_member tables = member (codes "string_tables") (list (map table_row tables)) ∷ []

-- what the data say, if the file holds them in one run
abbrev pub version_in : Option (List ℕ) → List (List ℕ)
version_in None = []
version_in (Some bytes) = fixed_members (fixed_info_of bytes) ++ tables_member (tables_of bytes)

-- the member of version information, if there is any: where its data are, and what they say
unfoldable pub version_at : LaidOut → Option Leaf → List (List ℕ)
version_at i None = []
version_at i (Some leaf) = member (codes "version") (object (number (codes "rva") leaf.rva ∷ version_in (data_of i leaf))) ∷ []

abbrev pub version_members : LaidOut → List (List ℕ)
version_members i = version_at i (single.version_of i)
