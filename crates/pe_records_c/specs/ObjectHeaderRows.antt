-- The headers of an object as C has them.
use Rattle.pe_head.specs.declared.section.SectionHeader.{SectionHeader}
use Rattle.coff_read.specs.declared.headers.FileHeader.{FileHeader}
use Rattle.pe_records_c.specs.declared.object_headers.ObjectHeaderRecord.{ObjectHeaderRecord}
use Rattle.pe_records_c.specs.declared.object_headers.SectionHeaderRow.{SectionHeaderRow}

-- the COFF file header, field by field
abbrev pub object_header_record : FileHeader → ObjectHeaderRecord
object_header_record h = record {
  machine = h.machine;
  number_of_sections = h.number_of_sections;
  time_date_stamp = h.time_date_stamp;
  pointer_to_symbol_table = h.pointer_to_symbol_table;
  number_of_symbols = h.number_of_symbols;
  size_of_optional_header = h.size_of_optional_header;
  characteristics = h.characteristics;
}

-- a section header, field by field
abbrev pub section_header_row : SectionHeader → SectionHeaderRow
section_header_row s = record {
  name = s.name;
  virtual_size = s.virtual_size;
  virtual_address = s.virtual_address;
  size_of_raw_data = s.size_of_raw_data;
  pointer_to_raw_data = s.pointer_to_raw_data;
  pointer_to_relocations = s.pointer_to_relocations;
  pointer_to_linenumbers = s.pointer_to_linenumbers;
  number_of_relocations = s.number_of_relocations;
  number_of_linenumbers = s.number_of_linenumbers;
  characteristics = s.characteristics;
}
