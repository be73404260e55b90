-- The headers of an image ("PE Format": COFF File Header, Optional Header, Section Table) as functions of the file's bytes: each
-- field is the number at an offset, in a width.
use Rattle.std.specs.Prelude.{ℕ, ◌+◌, ◌*◌, ◌==◌, Bool, min, map, List, None, Some, if◌then◌else◌}
use Rattle.std.specs.List.{range_with_len}
use Rattle.pe_view.specs.Number.{num, byte_of}
use Rattle.pe_head.specs.declared.optional.Magic.{Magic}
use Rattle.pe_head.specs.declared.optional.Magic.TheVariants.{Pe32, Pe32Plus}
use Rattle.pe_head.specs.declared.directory.Directory.{Directory}
use Rattle.pe_head.specs.declared.section.SectionHeader.{SectionHeader}
use Rattle.pe_head.specs.declared.headers.Headers.{Headers}
use Rattle.pe_head.specs.Optional.{fixed_size_of}
use Rattle.pe_head.specs.Section.{section_header}

-- p, the file offset of the signature
abbrev pub pe_offset : List ℕ → ℕ
pe_offset file = num (byte_of file) 0x3c 4

-- a field of the COFF header, by its offset and its width
abbrev pub coff_field : List ℕ → ℕ → ℕ → ℕ
coff_field file offset width = num (byte_of file) (pe_offset file + 4 + offset) width

-- where the optional header begins
abbrev pub optional_start : List ℕ → ℕ
optional_start file = pe_offset file + 24

-- a field of the optional header
abbrev pub field : List ℕ → ℕ → ℕ → ℕ
field file offset width = num (byte_of file) (optional_start file + offset) width

abbrev pub is_pe32 : List ℕ → Bool
is_pe32 file = field file 0 2 == 0x10b

abbrev pub magic_of : List ℕ → Magic
magic_of file = if is_pe32 file then Pe32 else Pe32Plus

-- a field whose offset and width differ between PE32 and PE32+
abbrev pub either_field : List ℕ → ℕ → ℕ → ℕ → ℕ → ℕ
either_field file offset width plus_offset plus_width = if is_pe32 file then field file offset width else field file plus_offset plus_width

-- the size of the optional header before its directories
abbrev pub fixed_size : List ℕ → ℕ
fixed_size file = fixed_size_of (magic_of file)

-- the number of directories in the headers: NumberOfRvaAndSizes, but at most 16
abbrev pub directory_count : List ℕ → ℕ
directory_count file = min (either_field file 92 4 108 4) 16

-- directory i
abbrev pub directory_at : List ℕ → ℕ → Directory
directory_at file i = record {
  rva = either_field file (96 + 8 * i) 4 (112 + 8 * i) 4;
  size = either_field file (96 + 8 * i + 4) 4 (112 + 8 * i + 4) 4;
}

-- where the section table begins
abbrev pub table_start : List ℕ → ℕ
table_start file = optional_start file + coff_field file 16 2

-- where section i's header begins
abbrev pub section_start : List ℕ → ℕ → ℕ
section_start file i = table_start file + 40 * i

-- section i's header
abbrev pub section_at : List ℕ → ℕ → SectionHeader
section_at file i = section_header file (section_start file i)

-- the headers of a file; offsets are those in the COFF header and in the optional header
abbrev pub head_of : List ℕ → Headers
head_of file =
    record {
      magic = magic_of file;
      pe_offset = pe_offset file;
      machine = coff_field file 0 2;
      number_of_sections = coff_field file 2 2;
      time_date_stamp = coff_field file 4 4;
      pointer_to_symbol_table = coff_field file 8 4;
      number_of_symbols = coff_field file 12 4;
      size_of_optional_header = coff_field file 16 2;
      characteristics = coff_field file 18 2;
      major_linker_version = field file 2 1;
      minor_linker_version = field file 3 1;
      size_of_code = field file 4 4;
      size_of_initialized_data = field file 8 4;
      size_of_uninitialized_data = field file 12 4;
      address_of_entry_point = field file 16 4;
      base_of_code = field file 20 4;
      base_of_data = if is_pe32 file then Some (field file 24 4) else None;
      image_base = either_field file 28 4 24 8;
      section_alignment = field file 32 4;
      file_alignment = field file 36 4;
      major_operating_system_version = field file 40 2;
      minor_operating_system_version = field file 42 2;
      major_image_version = field file 44 2;
      minor_image_version = field file 46 2;
      major_subsystem_version = field file 48 2;
      minor_subsystem_version = field file 50 2;
      win32_version_value = field file 52 4;
      size_of_image = field file 56 4;
      size_of_headers = field file 60 4;
      check_sum = field file 64 4;
      subsystem = field file 68 2;
      dll_characteristics = field file 70 2;
      size_of_stack_reserve = either_field file 72 4 72 8;
      size_of_stack_commit = either_field file 76 4 80 8;
      size_of_heap_reserve = either_field file 80 4 88 8;
      size_of_heap_commit = either_field file 84 4 96 8;
      loader_flags = either_field file 88 4 104 4;
      number_of_rva_and_sizes = either_field file 92 4 108 4;
      directories = record { items = map (directory_at file) (range_with_len 0 (directory_count file)) };
      sections = record { items = map (section_at file) (range_with_len 0 (coff_field file 2 2)) };
    }

-- the file offset of section i's header
abbrev pub section_offset : Headers → ℕ → ℕ
section_offset h i = h.pe_offset + 24 + h.size_of_optional_header + 40 * i
