-- The big object's file that the reader that does not allocate has checked, and its header.
use Rattle.std.specs.Prelude.{ℕ, List, map}
use Rattle.pe_view.specs.View.{bytes_of}
use Rattle.pe_head.specs.declared.section.SectionHeader.{SectionHeader}
use Rattle.pe_head.specs.Section.{section_header}
use Rattle.coff_read.specs.Field.{field}
use Rattle.coff_read.specs.FormReading.{section_starts}
use Rattle.coff_read.specs.Forms.{Big}
use Rattle.coff_read.specs.declared.big_file.BigObjectFile.{BigObjectFile}
use Rattle.coff_read.specs.declared.big_header.BigFileHeader.{BigFileHeader}

abbrev pub big_file_of : BigObjectFile → List ℕ
big_file_of o = bytes_of o.view

-- the header, which begins the file, without the bytes that all big objects have
abbrev pub big_file_header : List ℕ → BigFileHeader
big_file_header file = record {
  version = field file 0 4 2;
  machine = field file 0 6 2;
  time_date_stamp = field file 0 8 4;
  size_of_data = field file 0 28 4;
  flags = field file 0 32 4;
  meta_data_size = field file 0 36 4;
  meta_data_offset = field file 0 40 4;
  number_of_sections = field file 0 44 4;
  pointer_to_symbol_table = field file 0 48 4;
  number_of_symbols = field file 0 52 4;
}

-- the section headers in table order
abbrev pub big_section_headers : List ℕ → List SectionHeader
big_section_headers file = map (section_header file) (section_starts Big file)
