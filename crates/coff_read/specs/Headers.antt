-- The COFF file header and the section headers of an object, field by field.
use Rattle.std.specs.Prelude.{ℕ, List, map}
use Rattle.pe_head.specs.declared.section.SectionHeader.{SectionHeader}
pub use Rattle.pe_head.specs.Section.{section_header}
use Rattle.coff_read.specs.Field.{field}
use Rattle.coff_read.specs.Reading.{section_starts}
use Rattle.coff_read.specs.declared.headers.FileHeader.{FileHeader}

-- the COFF file header, which begins the file
abbrev pub file_header : List ℕ → FileHeader
file_header file = record {
  machine = field file 0 0 2;
  number_of_sections = field file 0 2 2;
  time_date_stamp = field file 0 4 4;
  pointer_to_symbol_table = field file 0 8 4;
  number_of_symbols = field file 0 12 4;
  size_of_optional_header = field file 0 16 2;
  characteristics = field file 0 18 2;
}

-- the section headers in table order
abbrev pub section_headers : List ℕ → List SectionHeader
section_headers file = map (section_header file) (section_starts file)
