-- The header of a big object as C has it.
use Rattle.c_tables.specs.declared.header.BigObjectHeaderRecord.{BigObjectHeaderRecord}
use Rattle.coff_read.specs.declared.big_header.BigFileHeader.{BigFileHeader}

-- the header, field by field
abbrev pub big_object_header_record : BigFileHeader → BigObjectHeaderRecord
big_object_header_record h = record {
  version = h.version;
  machine = h.machine;
  time_date_stamp = h.time_date_stamp;
  size_of_data = h.size_of_data;
  flags = h.flags;
  meta_data_size = h.meta_data_size;
  meta_data_offset = h.meta_data_offset;
  number_of_sections = h.number_of_sections;
  pointer_to_symbol_table = h.pointer_to_symbol_table;
  number_of_symbols = h.number_of_symbols;
}
