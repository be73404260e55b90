-- Lines of archives by the definitions, written out.
use Rattle.std.proofs.Common.{◌≡◌, ◌++◌, ℕ, List, [], ◌∷◌, None, false, true, refl, codes}
use Rattle.std.specs.Fmt.{digits}
use Rattle.std.specs.Str.{is_utf8, chars}
use lib.Utf8.{encode}
use Rattle.json.specs.Print.{escape_byte}
use Rattle.pe_view.specs.declared.fault.Place.TheVariants.{File}
use Rattle.pe_head.specs.Names.{machine_names, characteristic_names}
use Rattle.pe_text.specs.Text.{hex}
use Rattle.pe_text.specs.FaultWords.{rules}
use Rattle.coff_archive.specs.Front.{special_at, behind}
use Rattle.coff_archive.specs.Imports.{field}
use Rattle.coff_archive.specs.Symbols.{offset_count, symbol_count, offset_of, symbol_member}
use Rattle.coff_read.specs.Field as object_field
use Rattle.coff_read.specs.FormFaults.{object_tests, record_tests}
use Rattle.coff_lines.specs.ArchiveLines.{archive_fault, contents_tests}
use Rattle.pe_detail.specs.DetailWords.{detail_words}
use Rattle.pe_json.specs.Shown.{shown, shown_character}
use Rattle.pe_json.specs.CertificateRows.{name_if}
use Rattle.pe_json.specs.Headers.{coff_numbers}
use Rattle.pe_json.specs.JsonText.{with_commas, hex_string, member, object, list, text_if, number_if}
use Rattle.pe_json.specs.ObjectLine.{object_members}
use Rattle.pe_json.specs.Refused.{fault_members, place_members, place_object, words_members, values_members}
use Rattle.coff_archive_json.specs.ArchiveJson.{archive_lines}
use Rattle.coff_archive_json.specs.ArchiveLine.{format_members, archive_line}
use Rattle.coff_archive_json.specs.ImportMembers.{text_members, imported_members, type_members, import_members}
use Rattle.coff_archive_json.specs.Line.{verdict, refused_line}
use Rattle.coff_archive_json.specs.MemberLine.{header_members, numbers_of, own_refusal, held_members, member_line}
use Rattle.coff_archive_json.specs.SymbolRows.{symbols_if}

-- ---- members
-- AMD64, a hint of 5, code, by the symbol's name; and I386, made at 9, ordinal 7, data
abbrev by_name : List ℕ
by_name = (0 ∷ 0 ∷ 0xff ∷ 0xff ∷ 0 ∷ 0 ∷ 0x64 ∷ 0x86 ∷ 0 ∷ 0 ∷ 0 ∷ 0 ∷ 8 ∷ 0 ∷ 0 ∷ 0 ∷ 5 ∷ 0 ∷ 4 ∷ 0 ∷ []) ++ codes "f" ++ (0 ∷ []) ++ codes "k.dll" ++ (0 ∷ [])

abbrev by_ordinal : List ℕ
by_ordinal = (0 ∷ 0 ∷ 0xff ∷ 0xff ∷ 0 ∷ 0 ∷ 0x4c ∷ 0x01 ∷ 9 ∷ 0 ∷ 0 ∷ 0 ∷ 9 ∷ 0 ∷ 0 ∷ 0 ∷ 7 ∷ 0 ∷ 1 ∷ 0 ∷ []) ++ codes "_g" ++ (0 ∷ []) ++ codes "k.dll" ++ (0 ∷ [])

import_by_name : member_line (codes "k.lib") false [] (record { offset = 8; field = codes "k.dll/          "; size = 28; bytes = by_name })
    ≡ codes "{\"schema\":1,\"archive\":\"k.lib\",\"member\":\"k.dll\",\"offset\":8,\"size\":28,\"accepted\":true,\"format\":\"import object\",\"import\":{\"machine\":34404,\"machine_name\":\"AMD64\",\"time_date_stamp\":0,\"symbol\":\"f\",\"module\":\"k.dll\",\"name\":\"f\",\"hint\":5,\"type\":0,\"type_name\":\"code\",\"name_type\":1}}\n"
unfolding member_line header_members own_refusal held_members verdict import_members text_members imported_members type_members field name_if text_if member object with_commas is_utf8 chars encode shown shown_character escape_byte digits machine_names
import_by_name = refl

import_by_ordinal : member_line (codes "k.lib") false [] (record { offset = 96; field = codes "k.dll/          "; size = 29; bytes = by_ordinal })
    ≡ codes "{\"schema\":1,\"archive\":\"k.lib\",\"member\":\"k.dll\",\"offset\":96,\"size\":29,\"accepted\":true,\"format\":\"import object\",\"import\":{\"machine\":332,\"machine_name\":\"I386\",\"time_date_stamp\":9,\"symbol\":\"_g\",\"module\":\"k.dll\",\"ordinal\":7,\"type\":1,\"type_name\":\"data\",\"name_type\":0}}\n"
unfolding member_line header_members own_refusal held_members verdict import_members text_members imported_members type_members field name_if text_if member object with_commas is_utf8 chars encode shown shown_character escape_byte digits machine_names
import_by_ordinal = refl

-- one whose texts pass the member's end, in a member whose name is no UTF-8
cut_import : member_line (codes "k.lib") false [] (record { offset = 8; field = 0xff ∷ 0x41 ∷ codes "/             "; size = 20; bytes = 0 ∷ 0 ∷ 0xff ∷ 0xff ∷ 0 ∷ 0 ∷ 0 ∷ 0 ∷ 0 ∷ 0 ∷ 0 ∷ 0 ∷ 1 ∷ 0 ∷ 0 ∷ 0 ∷ 0 ∷ 0 ∷ 0 ∷ 0 ∷ [] })
    ≡ codes "{\"schema\":1,\"archive\":\"k.lib\",\"member_hex\":\"ff41\",\"offset\":8,\"size\":20,\"accepted\":false,\"fault\":{\"number\":331,\"image\":0,\"place\":{\"file\":8},\"subject\":\"SizeOfData\",\"rule\":\"the import object extends past the end of its member\"}}\n"
unfolding member_line header_members own_refusal held_members verdict fault_members place_members place_object words_members values_members rules field name_if member object with_commas hex_string hex is_utf8 chars encode shown shown_character escape_byte digits
cut_import = refl

-- a name that leads nowhere is a fault, and what the member holds follows
nameless_import : member_line (codes "k.lib") false [] (record { offset = 8; field = codes "/5              "; size = 28; bytes = by_name })
    ≡ codes "{\"schema\":1,\"archive\":\"k.lib\",\"offset\":8,\"size\":28,\"accepted\":false,\"fault\":{\"number\":304,\"image\":0,\"place\":{\"file\":8},\"subject\":\"Name of a member\",\"rule\":\"it leads to no text\"},\"format\":\"import object\",\"import\":{\"machine\":34404,\"machine_name\":\"AMD64\",\"time_date_stamp\":0,\"symbol\":\"f\",\"module\":\"k.dll\",\"name\":\"f\",\"hint\":5,\"type\":0,\"type_name\":\"code\",\"name_type\":1}}\n"
unfolding member_line header_members own_refusal held_members verdict fault_members place_members place_object words_members values_members rules import_members text_members imported_members type_members field name_if text_if member object with_commas is_utf8 chars encode shown shown_character escape_byte digits machine_names
nameless_import = refl

-- an object with nothing but its header
empty_object : member_line (codes "a.lib") false [] (record { offset = 8; field = codes "a.obj/          "; size = 20; bytes = 0x64 ∷ 0x86 ∷ 0 ∷ 0 ∷ 1 ∷ 0 ∷ 0 ∷ 0 ∷ 0 ∷ 0 ∷ 0 ∷ 0 ∷ 0 ∷ 0 ∷ 0 ∷ 0 ∷ 0 ∷ 0 ∷ 4 ∷ 0 ∷ [] })
    ≡ codes "{\"schema\":1,\"archive\":\"a.lib\",\"member\":\"a.obj\",\"offset\":8,\"size\":20,\"accepted\":true,\"format\":\"COFF\",\"headers\":{\"machine\":34404,\"machine_name\":\"AMD64\",\"number_of_sections\":0,\"time_date_stamp\":1,\"pointer_to_symbol_table\":0,\"number_of_symbols\":0,\"size_of_optional_header\":0,\"characteristics\":4,\"characteristics_flags\":[\"LINE_NUMS_STRIPPED\"]},\"sections\":[],\"symbols\":[]}\n"
unfolding member_line header_members own_refusal held_members verdict field object_field.field object_tests record_tests object_members coff_numbers name_if text_if member object list with_commas is_utf8 chars encode shown shown_character escape_byte digits machine_names characteristic_names
empty_object = refl

-- a member that the archive keeps for itself
own_member : member_line (codes "a.lib") false [] (record { offset = 8; field = codes "/               "; size = 4; bytes = 0 ∷ 0 ∷ 0 ∷ 0 ∷ [] })
    ≡ codes "{\"schema\":1,\"archive\":\"a.lib\",\"member\":\"/\",\"offset\":8,\"size\":4,\"accepted\":true}\n"
unfolding member_line header_members own_refusal held_members verdict name_if member object with_commas is_utf8 chars encode shown shown_character escape_byte digits
own_member = refl

-- another one of a thin archive
thin_member : member_line (codes "t.a") true [] (record { offset = 8; field = codes "a.o/            "; size = 100; bytes = [] })
    ≡ codes "{\"schema\":1,\"archive\":\"t.a\",\"member\":\"a.o\",\"offset\":8,\"size\":100,\"accepted\":true}\n"
unfolding member_line header_members own_refusal held_members verdict name_if member object with_commas is_utf8 chars encode shown shown_character escape_byte digits
thin_member = refl

-- ---- archives
-- what comes after the name in a header: no date, no owner and no mode
abbrev header : List ℕ → List ℕ
header size = codes "0           0     0     0       " ++ size ++ codes "`\n"

-- both linker members: the first has one symbol; the second has two, and no offset of the index of the other
abbrev two_linkers : List ℕ
two_linkers =
    codes "!<arch>\n"
    ++ codes "/               " ++ header (codes "10        ") ++ (0 ∷ 0 ∷ 0 ∷ 1 ∷ 0 ∷ 0 ∷ 0 ∷ 0xc8 ∷ []) ++ codes "f" ++ (0 ∷ [])
    ++ codes "/               " ++ header (codes "20        ") ++ (1 ∷ 0 ∷ 0 ∷ 0 ∷ 0xc8 ∷ 0 ∷ 0 ∷ 0 ∷ 2 ∷ 0 ∷ 0 ∷ 0 ∷ 1 ∷ 0 ∷ 2 ∷ 0 ∷ []) ++ codes "f" ++ (0 ∷ []) ++ codes "g" ++ (0 ∷ [])

both_lists : archive_line (codes "a.lib") false two_linkers None
    ≡ codes "{\"schema\":1,\"archive\":\"a.lib\",\"accepted\":true,\"format\":\"archive\",\"first_linker_member\":[{\"name\":\"f\",\"offset\":200}],\"second_linker_member\":[{\"name\":\"f\",\"offset\":200},{\"name\":\"g\"}]}\n"
unfolding verdict format_members symbols_if number_if special_at behind offset_count symbol_count offset_of symbol_member member object list with_commas is_utf8 chars encode shown shown_character escape_byte digits
both_lists = refl

-- an object without a header, and two bytes where one of a member should be
broken : archive_lines (codes "b.lib") false (codes "!<arch>\n" ++ codes "a.o/            " ++ header (codes "1         ") ++ codes "x\nzz")
    ≡ codes "{\"schema\":1,\"archive\":\"b.lib\",\"member\":\"a.o\",\"offset\":8,\"size\":1,\"accepted\":false,\"fault\":{\"number\":61,\"image\":0,\"place\":{\"file\":1},\"subject\":\"end of the file\",\"rule\":\"the file has fewer than the 20 bytes of a COFF file header, or more than 2^32\",\"values\":{\"file_size\":1}}}\n"
    ++ codes "{\"schema\":1,\"archive\":\"b.lib\",\"accepted\":false,\"fault\":{\"number\":301,\"image\":0,\"place\":{\"file\":70},\"subject\":\"member\",\"rule\":\"it has no header, whose 60 bytes end with a backquote and a line feed\"}}\n"
    ++ codes "{\"schema\":1,\"archive\":\"b.lib\",\"accepted\":false,\"fault\":{\"number\":307,\"image\":0,\"place\":{\"file\":8},\"subject\":\"member\",\"rule\":\"the object in it has a fault\"},\"format\":\"archive\"}\n"
unfolding archive_lines archive_fault contents_tests member_line header_members numbers_of own_refusal held_members verdict format_members symbols_if fault_members place_members place_object words_members values_members detail_words rules special_at behind field object_field.field object_tests name_if member object with_commas is_utf8 chars encode shown shown_character escape_byte digits
broken = refl

-- of a thin archive without members
empty_thin : archive_lines (codes "t.a") true (codes "!<thin>\n") ≡ codes "{\"schema\":1,\"archive\":\"t.a\",\"accepted\":true,\"format\":\"thin archive\"}\n"
unfolding archive_lines archive_fault verdict format_members symbols_if special_at behind member object with_commas is_utf8 chars encode shown shown_character escape_byte digits
empty_thin = refl

-- a file that is no archive
no_archive : refused_line (codes "a.exe") (record { number = 300; image = 0; place = File 0 })
    ≡ codes "{\"schema\":1,\"archive\":\"a.exe\",\"accepted\":false,\"fault\":{\"number\":300,\"image\":0,\"place\":{\"file\":0},\"subject\":\"archive\",\"rule\":\"the file does not begin with !<arch> or !<thin>\"}}\n"
unfolding verdict fault_members place_members place_object words_members values_members rules member object with_commas is_utf8 chars encode shown shown_character escape_byte digits
no_archive = refl
