-- A section header of a file, and the sizes of the section in the image and in the file.
use Rattle.std.specs.Prelude.{ℕ, ◌+◌, ◌==◌, min, if◌then◌else◌, List}
use Rattle.pe_view.specs.Number.{num, byte_of, part}
use Rattle.pe_head.specs.declared.section.SectionHeader.{SectionHeader}

-- the section header at a file offset
abbrev pub section_header : List ℕ → ℕ → SectionHeader
section_header file start =
    let field = λ (offset width : ℕ). num (byte_of file) (start + offset) width in
    record {
      name = part file start 8;
      virtual_size = field 8 4;
      virtual_address = field 12 4;
      size_of_raw_data = field 16 4;
      pointer_to_raw_data = field 20 4;
      pointer_to_relocations = field 24 4;
      pointer_to_linenumbers = field 28 4;
      number_of_relocations = field 32 2;
      number_of_linenumbers = field 34 2;
      characteristics = field 36 4;
    }

-- the section's size in the laid-out image
abbrev pub extent : SectionHeader → ℕ
extent s = if s.virtual_size == 0 then s.size_of_raw_data else s.virtual_size

-- how many of these bytes come from the file
abbrev pub rawlen : SectionHeader → ℕ
rawlen s = if s.pointer_to_raw_data == 0 then 0 else min (extent s) s.size_of_raw_data
