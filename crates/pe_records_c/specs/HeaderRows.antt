-- Headers and sections as C has them.
use Rattle.std.specs.Prelude.{List, replicate, unwrap_or}
use Rattle.pe_head.specs.declared.directory.Directory.{Directory}
use Rattle.pe_head.specs.declared.headers.Headers.{Headers}
use Rattle.pe_head.specs.declared.section.SectionHeader.{SectionHeader}
use Rattle.pe_head.specs.Optional.{magic_number}
use Rattle.pe_head.specs.Section.{extent, rawlen}
use Rattle.pe_records_c.specs.declared.headers.DirectoryRow.{DirectoryRow}
use Rattle.pe_records_c.specs.declared.headers.HeadersRecord.{HeadersRecord}
use Rattle.pe_records_c.specs.declared.headers.SectionRow.{SectionRow}
use Rattle.pe_records_c.specs.Rows.{filled}

abbrev pub directory_row : Directory → DirectoryRow
directory_row d = record { rva = d.rva; size = d.size }

-- where a section lies in the image and in the file, with the fields of its header
abbrev pub section_row : SectionHeader → SectionRow
section_row s = record {
  rva = s.virtual_address;
  extent = extent s;
  file_size = rawlen s;
  -- from describe/records.txt: rows of section
  name = s.name;
  pointer_to_raw_data = s.pointer_to_raw_data;
  size_of_raw_data = s.size_of_raw_data;
  virtual_size = s.virtual_size;
  characteristics = s.characteristics;
  -- end of describe/records.txt
}

-- sixteen directories; those that the headers do not hold are 0
abbrev pub directory_rows : List Directory → List DirectoryRow
directory_rows ds = filled directory_row ds (replicate 16 (record { rva = 0; size = 0 }))

-- the headers, field by field; BaseOfData is 0 in PE32+, which has none
abbrev pub headers_record : Headers → HeadersRecord
headers_record h = record {
  base_of_data = unwrap_or h.base_of_data 0;
  magic = magic_number h.magic;
  directories = directory_rows h.directories.items;
  -- from describe/records.txt: rows of headers
  image_base = h.image_base;
  size_of_stack_reserve = h.size_of_stack_reserve;
  size_of_stack_commit = h.size_of_stack_commit;
  size_of_heap_reserve = h.size_of_heap_reserve;
  size_of_heap_commit = h.size_of_heap_commit;
  pe_offset = h.pe_offset;
  time_date_stamp = h.time_date_stamp;
  pointer_to_symbol_table = h.pointer_to_symbol_table;
  number_of_symbols = h.number_of_symbols;
  size_of_code = h.size_of_code;
  size_of_initialized_data = h.size_of_initialized_data;
  size_of_uninitialized_data = h.size_of_uninitialized_data;
  address_of_entry_point = h.address_of_entry_point;
  base_of_code = h.base_of_code;
  section_alignment = h.section_alignment;
  file_alignment = h.file_alignment;
  win32_version_value = h.win32_version_value;
  size_of_image = h.size_of_image;
  size_of_headers = h.size_of_headers;
  check_sum = h.check_sum;
  loader_flags = h.loader_flags;
  number_of_rva_and_sizes = h.number_of_rva_and_sizes;
  machine = h.machine;
  number_of_sections = h.number_of_sections;
  size_of_optional_header = h.size_of_optional_header;
  characteristics = h.characteristics;
  subsystem = h.subsystem;
  dll_characteristics = h.dll_characteristics;
  major_operating_system_version = h.major_operating_system_version;
  minor_operating_system_version = h.minor_operating_system_version;
  major_image_version = h.major_image_version;
  minor_image_version = h.minor_image_version;
  major_subsystem_version = h.major_subsystem_version;
  minor_subsystem_version = h.minor_subsystem_version;
  major_linker_version = h.major_linker_version;
  minor_linker_version = h.minor_linker_version;
  -- end of describe/records.txt
}
