-- Members of resources and version information in a line of JSON as the definitions give them, written out.
use Rattle.std.proofs.Common.{◌≡◌, [], ◌∷◌, ◌++◌, Some, None, refl, codes}
use Rattle.std.specs.Fmt.{digits}
use Rattle.std.specs.Str.{is_utf8, chars}
use lib.Utf8.{encode}
use Rattle.std.specs.Char.Utf16.{utf16_chars}
use Rattle.json.specs.Print.{quoted, escape_byte}
use Rattle.pe_layout.specs.Image.{LaidOut}
use Rattle.pe_version.specs.declared.fixed.FixedInfo.{FixedInfo}
use Rattle.pe_text.specs.Text.{hex}
use Rattle.pe_json.specs.Shown.{shown, shown_character}
use Rattle.pe_json.specs.Utf16.{utf8_characters}
use Rattle.pe_json.specs.JsonText.{with_commas, hex_string, member, number, object, list}
use Rattle.pe_json.specs.ResourceRows.{leaf_numbers, leaf_row, manifest_if, entry_name}
use Rattle.pe_json.specs.VersionRows.{version_numbers, kind_numbers, fixed_members, table_row, tables_member}

-- a leaf whose names are ids, and one that the root leads to
leaf_of_ids : (i : LaidOut) → leaf_row i (record { path = record { kind = Some 16; name = Some 1; language = Some 1033 }; rva = 8192; size = 92; code_page = 1200 })
    ≡ codes "{\"rva\":8192,\"size\":92,\"code_page\":1200,\"type\":16,\"name\":1,\"language\":1033}"
unfolding leaf_numbers entry_name member object with_commas escape_byte digits
leaf_of_ids i = refl

leaf_of_type : (i : LaidOut) → leaf_row i (record { path = record { kind = Some 24; name = None; language = None }; rva = 4096; size = 0; code_page = 0 })
    ≡ codes "{\"rva\":4096,\"size\":0,\"code_page\":0,\"type\":24}"
unfolding leaf_numbers entry_name member object with_commas escape_byte digits
leaf_of_type i = refl

-- version 1.2.3.4 of a product 1.2.0.0, of the system NT for windows of 32 bits, a library
fixed : FixedInfo
fixed = record {
  structure_version = 65536;
  file_version_high = 65538;
  file_version_low = 196612;
  product_version_high = 65538;
  product_version_low = 0;
  flags_mask = 63;
  flags = 1;
  system = 262148;
  kind = 2;
  subkind = 0;
  date_high = 0;
  date_low = 0;
}

fixed_part : object (fixed_members (Some fixed))
    ≡ codes "{\"file_version\":[1,2,3,4],\"product_version\":[1,2,0,0],\"flags_mask\":63,\"flags\":1,\"system\":262148,\"type\":2,\"subtype\":0}"
unfolding version_numbers kind_numbers member object list with_commas escape_byte digits fixed
fixed_part = refl

no_tables : object (tables_member []) ≡ codes "{\"string_tables\":[]}"
unfolding tables_member member object list with_commas escape_byte
no_tables = refl

-- a table without strings, and one with two, of which the second has a hidden character (U+202E) and half of a pair
two_tables : object (tables_member (record { key = []; strings = [] } ∷ record { key = 0x30 ∷ 0 ∷ []; strings = record { key = 0x41 ∷ 0 ∷ []; value = 0x62 ∷ 0 ∷ [] } ∷ record { key = 0x2e ∷ 0x20 ∷ []; value = 0 ∷ 0xd8 ∷ [] } ∷ [] } ∷ []))
    ≡ codes "{\"string_tables\":[{\"key\":\"\",\"strings\":[]},{\"key\":\"0\",\"strings\":[{\"key\":\"A\",\"value\":\"b\"},{\"key\":\"\\u202e\",\"value\":\"" ++ (0xef ∷ 0xbf ∷ 0xbd ∷ codes "\"}]}]}")
unfolding tables_member member object list with_commas escape_byte chars encode utf16_chars utf8_characters shown shown_character hex
two_tables = refl

a_manifest : object (manifest_if (Some (codes "<a b=\"c\"/>"))) ≡ codes "{\"manifest\":\"<a b=\\\"c\\\"/>\"}"
unfolding manifest_if is_utf8 chars encode shown shown_character member object with_commas escape_byte
a_manifest = refl
