-- Parts of an object's line as the definitions give them, written out; and the row of a section, which images have too.
use Rattle.std.proofs.Common.{◌≡◌, [], ◌∷◌, ◌++◌, None, refl, codes}
use Rattle.std.specs.Fmt.{digits}
use Rattle.std.specs.Str.{is_utf8, chars}
use lib.Utf8.{encode}
use Rattle.json.specs.Print.{escape_byte}
use Rattle.pe_text.specs.Text.{hex}
use Rattle.pe_head.specs.Names.{machine_names, characteristic_names, section_flag_names, directory_names}
use Rattle.pe_head.specs.declared.section.SectionHeader.{SectionHeader}
use Rattle.coff_read.specs.Auxiliary as auxiliary
use Rattle.coff_read.specs.Field.{field}
use Rattle.coff_read.specs.Forms.{Plain}
use Rattle.coff_read.specs.Records.{Symbol}
use Rattle.coff_read.specs.TypeNames.{storage_class_names, amd64_type_names, i386_type_names}
use Rattle.coff_read.specs.declared.symbol.SymbolSection.TheVariants as belongs
use Rattle.pe_json.specs.Shown.{shown, shown_character}
use Rattle.pe_json.specs.JsonText.{with_commas, hex_string, member, object, list, number_if, text_if}
use Rattle.pe_json.specs.Headers.{coff_numbers, coff_members, place_members, directories_list}
use Rattle.pe_json.specs.Sections.{short_name, name_members, section_fields, section_row}
use Rattle.pe_json.specs.ObjectLine.{alignment_members, relocation_numbers, relocation_row, aux_members, aux_row, symbol_name, section_of_symbol, symbol_fields, symbol_row, object_members, object_line}
use Rattle.pe_json.specs.Line.{first_members}

data_section : SectionHeader
data_section = record {
  name = codes ".data" ++ (0 ∷ 0 ∷ 0 ∷ []);
  virtual_size = 16;
  virtual_address = 4096;
  size_of_raw_data = 512;
  pointer_to_raw_data = 512;
  pointer_to_relocations = 0;
  pointer_to_linenumbers = 0;
  number_of_relocations = 0;
  number_of_linenumbers = 0;
  characteristics = 0xc0000040;
}

section : section_row None 0 data_section ≡ codes "{\"index\":0,\"name\":\".data\",\"virtual_size\":16,\"virtual_address\":4096,\"size_of_raw_data\":512,\"pointer_to_raw_data\":512,\"pointer_to_relocations\":0,\"pointer_to_linenumbers\":0,\"number_of_relocations\":0,\"number_of_linenumbers\":0,\"characteristics\":3221225536,\"characteristics_flags\":[\"CNT_INITIALIZED_DATA\",\"MEM_READ\",\"MEM_WRITE\"]}"
unfolding data_section name_members short_name section_fields member object list with_commas is_utf8 chars encode shown shown_character escape_byte digits section_flag_names
section = refl

-- a name of eight bytes that are not UTF-8 has another key
other_section : section_row None 1 (record data_section { name = 0xff ∷ 0x41 ∷ 0 ∷ 0 ∷ 0 ∷ 0 ∷ 0 ∷ 0 ∷ []; characteristics = 0x20 }) ≡ codes "{\"index\":1,\"name_hex\":\"ff41\",\"virtual_size\":16,\"virtual_address\":4096,\"size_of_raw_data\":512,\"pointer_to_raw_data\":512,\"pointer_to_relocations\":0,\"pointer_to_linenumbers\":0,\"number_of_relocations\":0,\"number_of_linenumbers\":0,\"characteristics\":32,\"characteristics_flags\":[\"CNT_CODE\"]}"
unfolding data_section name_members short_name section_fields member object list with_commas hex_string hex is_utf8 chars encode shown shown_character escape_byte digits section_flag_names
other_section = refl

directories : directories_list (record { rva = 0; size = 0 } ∷ record { rva = 0x25000; size = 0x638 } ∷ [])
    ≡ codes "[{\"index\":0,\"name\":\"export\",\"virtual_address\":0,\"size\":0},{\"index\":1,\"name\":\"import\",\"virtual_address\":151552,\"size\":1592}]"
unfolding place_members member object list with_commas text_if chars encode shown shown_character escape_byte digits directory_names
directories = refl

header : object (coff_members (record { machine = 0x8664; number_of_sections = 5; time_date_stamp = 0; pointer_to_symbol_table = 486; number_of_symbols = 40; size_of_optional_header = 0; characteristics = 4 }))
    ≡ codes "{\"machine\":34404,\"machine_name\":\"AMD64\",\"number_of_sections\":5,\"time_date_stamp\":0,\"pointer_to_symbol_table\":486,\"number_of_symbols\":40,\"size_of_optional_header\":0,\"characteristics\":4,\"characteristics_flags\":[\"LINE_NUMS_STRIPPED\"]}"
unfolding coff_numbers member object list with_commas text_if chars encode shown shown_character escape_byte digits machine_names characteristic_names
header = refl

relocation : relocation_row 0x8664 (record { address = 458; symbol = 34; kind = 4 }) ≡ codes "{\"virtual_address\":458,\"symbol_table_index\":34,\"type\":4,\"type_name\":\"REL32\"}"
unfolding relocation_numbers member object with_commas text_if chars encode shown shown_character escape_byte digits amd64_type_names
relocation = refl

-- type 4 has no name for I386
unnamed_type : relocation_row 0x14c (record { address = 458; symbol = 34; kind = 4 }) ≡ codes "{\"virtual_address\":458,\"symbol_table_index\":34,\"type\":4}"
unfolding relocation_numbers member object with_commas text_if chars encode shown shown_character escape_byte digits i386_type_names
unnamed_type = refl

-- 16 bytes, and none
aligned : alignment_members 0x60500020 ≡ codes "\"alignment\":16" ∷ []
unfolding member number_if escape_byte digits
aligned = refl

not_aligned : alignment_members 0xc0000040 ≡ []
unfolding number_if
not_aligned = refl

file_symbol : Symbol
file_symbol = record {
  name = codes ".file";
  value = 0;
  section = belongs.Debug;
  kind = 0;
  class = 103;
  aux = codes "fdiml.c" ++ (0 ∷ 0 ∷ 0 ∷ 0 ∷ 0 ∷ 0 ∷ 0 ∷ 0 ∷ 0 ∷ 0 ∷ 0 ∷ []);
}

symbol : symbol_row Plain 0 file_symbol
    ≡ codes "{\"index\":0,\"name\":\".file\",\"value\":0,\"section\":\"DEBUG\",\"type\":0,\"storage_class\":103,\"storage_class_name\":\"FILE\",\"auxiliary_records\":[{\"index\":1,\"kind\":\"file\",\"file_name\":\"fdiml.c\"}]}"
unfolding file_symbol symbol_name section_of_symbol symbol_fields aux_members member object list with_commas text_if is_utf8 chars encode shown shown_character escape_byte digits storage_class_names
symbol = refl

-- a symbol without auxiliary records, whose class has no name
plain_symbol : symbol_row Plain 7 (record file_symbol { name = []; value = 3; section = belongs.Section 2; kind = 32; class = 200; aux = [] })
    ≡ codes "{\"index\":7,\"name\":\"\",\"value\":3,\"section_number\":2,\"type\":32,\"storage_class\":200}"
unfolding file_symbol symbol_name section_of_symbol symbol_fields member object with_commas text_if is_utf8 chars encode shown shown_character escape_byte digits storage_class_names
plain_symbol = refl

function : aux_row 4 (auxiliary.Function 5 16 32 6) ≡ codes "{\"index\":4,\"kind\":\"function\",\"tag_index\":5,\"total_size\":16,\"pointer_to_linenumber\":32,\"pointer_to_next_function\":6}"
unfolding aux_members member object with_commas escape_byte digits
function = refl

lines : aux_row 4 (auxiliary.Lines 12 9) ≡ codes "{\"index\":4,\"kind\":\"lines\",\"linenumber\":12,\"pointer_to_next_function\":9}"
unfolding aux_members member object with_commas escape_byte digits
lines = refl

weak : aux_row 1 (auxiliary.Weak 0 3) ≡ codes "{\"index\":1,\"kind\":\"weak_external\",\"tag_index\":0,\"characteristics\":3}"
unfolding aux_members member object with_commas escape_byte digits
weak = refl

definition : aux_row 1 (auxiliary.Section 6 1 0 0xabcdef 2 5) ≡ codes "{\"index\":1,\"kind\":\"section_definition\",\"length\":6,\"number_of_relocations\":1,\"number_of_linenumbers\":0,\"check_sum\":11259375,\"number\":2,\"selection\":5}"
unfolding aux_members member object with_commas escape_byte digits
definition = refl

raw : aux_row 1 (auxiliary.Raw (0x01 ∷ 0xab ∷ [])) ≡ codes "{\"index\":1,\"kind\":\"raw\",\"bytes_hex\":\"01ab\"}"
unfolding aux_members member object with_commas hex_string hex escape_byte digits
raw = refl

-- the line of an object with nothing but its header
empty_object : object_line (codes "a.obj") (0x64 ∷ 0x86 ∷ 0 ∷ 0 ∷ 1 ∷ 0 ∷ 0 ∷ 0 ∷ 0 ∷ 0 ∷ 0 ∷ 0 ∷ 0 ∷ 0 ∷ 0 ∷ 0 ∷ 0 ∷ 0 ∷ 4 ∷ 0 ∷ [])
    ≡ codes "{\"schema\":1,\"file\":\"a.obj\",\"accepted\":true,\"format\":\"COFF\",\"headers\":{\"machine\":34404,\"machine_name\":\"AMD64\",\"number_of_sections\":0,\"time_date_stamp\":1,\"pointer_to_symbol_table\":0,\"number_of_symbols\":0,\"size_of_optional_header\":0,\"characteristics\":4,\"characteristics_flags\":[\"LINE_NUMS_STRIPPED\"]},\"sections\":[],\"symbols\":[]}\n"
unfolding first_members object_members field coff_numbers member object list with_commas text_if is_utf8 chars encode shown shown_character escape_byte digits machine_names characteristic_names
empty_object = refl
