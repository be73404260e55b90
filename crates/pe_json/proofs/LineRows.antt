-- Lines of JSON as the definitions give them, written out.
use Rattle.std.proofs.Common.{◌≡◌, [], ◌∷◌, ◌++◌, Some, None, false, refl, codes}
use Rattle.std.specs.Fmt.{digits}
use Rattle.std.specs.Str.{is_utf8, chars}
use lib.Utf8.{encode}
use Rattle.json.specs.Print.{quoted, escape_byte}
use Rattle.pe_text.specs.Text.{hex}
use Rattle.pe_text.specs.FaultWords.{rules}
use Rattle.pe_view.specs.declared.fault.Place.TheVariants.{File}
use Rattle.pe_head.specs.declared.detail.FaultDetail.TheVariants.{PastFile}
use Rattle.pe_detail.specs.DetailWords.{detail_words}
use Rattle.pe_detail.specs.declared.detail.Detail.TheVariants.{Head}
use Rattle.pe_tables.specs.Key as key
use Rattle.pe_tables.specs.declared.fixups.FixupKind.TheVariants.{Bits64, High}
use Rattle.pe_json.specs.Shown.{shown, shown_character, shown_string}
use Rattle.pe_json.specs.JsonText.{with_commas, hex_string, member, number, object, list, name}
use Rattle.pe_json.specs.Line.{first_members, line}
use Rattle.pe_json.specs.Refused.{fault_members, place_members, place_object, words_members, values_members}
use Rattle.pe_json.specs.TableRows.{key_member, import_row, imports_list, kind_member, fixup_row}
use Rattle.pe_json.specs.ExportRows.{name_if, target_members, export_row}

-- a quote, a backslash, a line feed, a control character and two bytes of UTF-8
escapes : shown_string (0x41 ∷ 0x22 ∷ 0x5c ∷ 0x0a ∷ 0x1f ∷ 0xc3 ∷ 0xa9 ∷ []) ≡ codes "\"A\\\"\\\\\\n\\u001f" ++ (0xc3 ∷ 0xa9 ∷ 0x22 ∷ [])
unfolding chars encode shown shown_character escape_byte
escapes = refl

-- the ends of each range of hidden characters, and their neighbours: U+007E, U+007F, U+009F, U+00A0
first_range : shown_string (0x7e ∷ 0x7f ∷ 0xc2 ∷ 0x9f ∷ 0xc2 ∷ 0xa0 ∷ []) ≡ codes "\"~\\u007f\\u009f" ++ (0xc2 ∷ 0xa0 ∷ 0x22 ∷ [])
unfolding chars encode shown shown_character hex escape_byte
first_range = refl

-- U+2027, U+2028, U+202E, U+202F
second_range : shown_string (0xe2 ∷ 0x80 ∷ 0xa7 ∷ 0xe2 ∷ 0x80 ∷ 0xa8 ∷ 0xe2 ∷ 0x80 ∷ 0xae ∷ 0xe2 ∷ 0x80 ∷ 0xaf ∷ [])
    ≡ (0x22 ∷ 0xe2 ∷ 0x80 ∷ 0xa7 ∷ []) ++ codes "\\u2028\\u202e" ++ (0xe2 ∷ 0x80 ∷ 0xaf ∷ 0x22 ∷ [])
unfolding chars encode shown shown_character hex escape_byte
second_range = refl

-- U+2065, U+2066, U+2069, U+206A
third_range : shown_string (0xe2 ∷ 0x81 ∷ 0xa5 ∷ 0xe2 ∷ 0x81 ∷ 0xa6 ∷ 0xe2 ∷ 0x81 ∷ 0xa9 ∷ 0xe2 ∷ 0x81 ∷ 0xaa ∷ [])
    ≡ (0x22 ∷ 0xe2 ∷ 0x81 ∷ 0xa5 ∷ []) ++ codes "\\u2066\\u2069" ++ (0xe2 ∷ 0x81 ∷ 0xaa ∷ 0x22 ∷ [])
unfolding chars encode shown shown_character hex escape_byte
third_range = refl

-- U+FEFE, U+FEFF, U+FF00
byte_order_mark : shown_string (0xef ∷ 0xbb ∷ 0xbe ∷ 0xef ∷ 0xbb ∷ 0xbf ∷ 0xef ∷ 0xbc ∷ 0x80 ∷ []) ≡ (0x22 ∷ 0xef ∷ 0xbb ∷ 0xbe ∷ []) ++ codes "\\ufeff" ++ (0xef ∷ 0xbc ∷ 0x80 ∷ 0x22 ∷ [])
unfolding chars encode shown shown_character hex escape_byte
byte_order_mark = refl

no_row : imports_list [] ≡ codes "[]"
unfolding list with_commas
no_row = refl

a_name : name (codes "name") (codes "f") ≡ codes "\"name\":\"f\""
unfolding is_utf8 chars encode shown shown_character member escape_byte
a_name = refl

other_name : name (codes "name") (0xff ∷ 0x41 ∷ []) ≡ codes "\"name_hex\":\"ff41\""
unfolding is_utf8 chars encode shown shown_character member hex_string hex escape_byte
other_name = refl

two_imports : imports_list (record { module_name = codes "KERNEL32.dll"; key = key.Name (codes "Sleep"); slot = 152036 } ∷ record { module_name = codes "A\"b.DLL"; key = key.Ordinal 777; slot = 262168 } ∷ [])
    ≡ codes "[{\"module\":\"KERNEL32.dll\",\"name\":\"Sleep\",\"slot\":152036},{\"module\":\"A\\\"b.DLL\",\"ordinal\":777,\"slot\":262168}]"
unfolding import_row key_member member object list with_commas is_utf8 chars encode shown shown_character escape_byte digits
two_imports = refl

fixup_64 : fixup_row (record { entry = 0x300a; field = 102968; kind = Bits64 }) ≡ codes "{\"rva\":102968,\"bits\":64}"
unfolding fixup_row kind_member member object with_commas escape_byte digits
fixup_64 = refl

fixup_high : fixup_row (record { entry = 0x300a; field = 102968; kind = High }) ≡ codes "{\"rva\":102968,\"kind\":\"high\"}"
unfolding fixup_row kind_member member object with_commas escape_byte digits
fixup_high = refl

named_export : export_row 8 (Some (codes "crc32")) (key.Rva 9952) ≡ codes "{\"ordinal\":8,\"name\":\"crc32\",\"rva\":9952}"
unfolding export_row name_if target_members member object with_commas is_utf8 chars encode shown shown_character escape_byte digits
named_export = refl

forwarder : export_row 1 (Some (codes "AcquireSRWLockExclusive")) (key.Forward (codes "NTDLL") (key.Name (codes "RtlAcquireSRWLockExclusive")))
    ≡ codes "{\"ordinal\":1,\"name\":\"AcquireSRWLockExclusive\",\"forward\":{\"module\":\"NTDLL\",\"name\":\"RtlAcquireSRWLockExclusive\"}}"
unfolding export_row name_if target_members key_member member object with_commas is_utf8 chars encode shown shown_character escape_byte digits
forwarder = refl

unnamed_export : export_row 9 None (key.Rva 5378) ≡ codes "{\"ordinal\":9,\"rva\":5378}"
unfolding export_row name_if target_members member object with_commas escape_byte digits
unnamed_export = refl

-- the line of a refused file, with the first members of what has no fault
refused : line (codes "short.dll") false (fault_members (record { number = 13; image = 0; place = File 312 }) (Some (Head (PastFile 16 512 520))) ++ (member (codes "format") (quoted (codes "PE32")) ∷ number (codes "pe_offset") 64 ∷ []))
    ≡ codes "{\"schema\":1,\"file\":\"short.dll\",\"accepted\":false,\"fault\":{\"number\":13,\"image\":0,\"place\":{\"file\":312},\"subject\":\"section header\",\"rule\":\"the section's raw data extends past the end of the file\",\"values\":{\"size\":16,\"offset\":512,\"file_size\":520}},\"format\":\"PE32\",\"pe_offset\":64}\n"
unfolding first_members fault_members place_members place_object words_members values_members detail_words rules member object with_commas is_utf8 chars encode shown shown_character escape_byte digits
refused = refl
