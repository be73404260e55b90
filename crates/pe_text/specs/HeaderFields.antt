-- The fields of an image's headers ("PE Format": COFF File Header, Optional Header) as the dump's lines show them. The list
-- is written by hand, in the words and widths of the standard; that of the code is written from the description of all records.
use Rattle.std.specs.Prelude.{ℕ, Option, None, Some, List, [], ◌∷◌, codes}
use Rattle.pe_head.specs.declared.optional.Magic.{Magic}
use Rattle.pe_head.specs.declared.headers.Headers.{Headers}
use Rattle.pe_head.specs.Optional.{image_base_width, magic_number}
use Rattle.pe_text.specs.Field.{Field, field, time_date_stamp, characteristics}

-- the width in bytes of the fields that PE32+ extends, such as ImageBase
abbrev pub extended_width : Magic → ℕ
extended_width = image_base_width

-- the fields of the COFF header after Machine, in the header's order
abbrev pub coff_fields : Headers → List Field
coff_fields h =
    field (codes "NumberOfSections") 2 h.number_of_sections
    ∷ time_date_stamp h.time_date_stamp
    ∷ field (codes "PointerToSymbolTable") 4 h.pointer_to_symbol_table
    ∷ field (codes "NumberOfSymbols") 4 h.number_of_symbols
    ∷ field (codes "SizeOfOptionalHeader") 2 h.size_of_optional_header
    ∷ characteristics h.characteristics
    ∷ []

-- the standard fields of the optional header
abbrev pub standard_fields : Headers → List Field
standard_fields h =
    field (codes "Magic") 2 (magic_number h.magic)
    ∷ field (codes "MajorLinkerVersion") 1 h.major_linker_version
    ∷ field (codes "MinorLinkerVersion") 1 h.minor_linker_version
    ∷ field (codes "SizeOfCode") 4 h.size_of_code
    ∷ field (codes "SizeOfInitializedData") 4 h.size_of_initialized_data
    ∷ field (codes "SizeOfUninitializedData") 4 h.size_of_uninitialized_data
    ∷ field (codes "AddressOfEntryPoint") 4 h.address_of_entry_point
    ∷ field (codes "BaseOfCode") 4 h.base_of_code
    ∷ []

-- the standard field that only PE32 has
abbrev pub base_of_data_fields : Option ℕ → List Field
base_of_data_fields None = []
base_of_data_fields (Some base) = field (codes "BaseOfData") 4 base ∷ []

-- the Windows-specific fields of the optional header
abbrev pub windows_fields : Headers → List Field
windows_fields h =
    field (codes "ImageBase") (extended_width h.magic) h.image_base
    ∷ field (codes "SectionAlignment") 4 h.section_alignment
    ∷ field (codes "FileAlignment") 4 h.file_alignment
    ∷ field (codes "MajorOperatingSystemVersion") 2 h.major_operating_system_version
    ∷ field (codes "MinorOperatingSystemVersion") 2 h.minor_operating_system_version
    ∷ field (codes "MajorImageVersion") 2 h.major_image_version
    ∷ field (codes "MinorImageVersion") 2 h.minor_image_version
    ∷ field (codes "MajorSubsystemVersion") 2 h.major_subsystem_version
    ∷ field (codes "MinorSubsystemVersion") 2 h.minor_subsystem_version
    ∷ field (codes "Win32VersionValue") 4 h.win32_version_value
    ∷ field (codes "SizeOfImage") 4 h.size_of_image
    ∷ field (codes "SizeOfHeaders") 4 h.size_of_headers
    ∷ field (codes "CheckSum") 4 h.check_sum
    ∷ field (codes "Subsystem") 2 h.subsystem
    ∷ field (codes "DllCharacteristics") 2 h.dll_characteristics
    ∷ field (codes "SizeOfStackReserve") (extended_width h.magic) h.size_of_stack_reserve
    ∷ field (codes "SizeOfStackCommit") (extended_width h.magic) h.size_of_stack_commit
    ∷ field (codes "SizeOfHeapReserve") (extended_width h.magic) h.size_of_heap_reserve
    ∷ field (codes "SizeOfHeapCommit") (extended_width h.magic) h.size_of_heap_commit
    ∷ field (codes "LoaderFlags") 4 h.loader_flags
    ∷ field (codes "NumberOfRvaAndSizes") 4 h.number_of_rva_and_sizes
    ∷ []
