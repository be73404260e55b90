-- The headers of an image or an object, and the data directories, in a line of JSON. Names are those of "PE Format" in small letters,
-- written by hand; the code is written from the description of all records.
use Rattle.std.specs.Prelude.{ℕ, List, [], ◌∷◌, ◌++◌, codes, Option, None, Some}
use Rattle.pe_head.specs.Names.{name_in, machine_names, subsystem_names, directory_names}
use Rattle.pe_head.specs.Optional.{magic_number}
use Rattle.pe_head.specs.declared.names.FlagKind.TheVariants.{File, Dll}
use Rattle.pe_head.specs.declared.directory.Directory.{Directory}
use Rattle.pe_head.specs.declared.headers.Headers.{Headers}
use Rattle.coff_read.specs.declared.headers.FileHeader.{FileHeader}
use Rattle.pe_json.specs.JsonText.{object, list, number, wide, text_if, numbered_rows}
use Rattle.pe_json.specs.Flags.{flags_member}

-- ---- the COFF file header
unfoldable pub coff_numbers : FileHeader → List (List ℕ)
coff_numbers h =
    number (codes "number_of_sections") h.number_of_sections
    ∷ number (codes "time_date_stamp") h.time_date_stamp
    ∷ number (codes "pointer_to_symbol_table") h.pointer_to_symbol_table
    ∷ number (codes "number_of_symbols") h.number_of_symbols
    ∷ number (codes "size_of_optional_header") h.size_of_optional_header
    ∷ number (codes "characteristics") h.characteristics
    ∷ flags_member (codes "characteristics_flags") File h.characteristics
    ∷ []

abbrev pub coff_members : FileHeader → List (List ℕ)
coff_members h = number (codes "machine") h.machine ∷ (text_if (codes "machine_name") (name_in machine_names h.machine) ++ coff_numbers h)

-- the COFF file header of an image
abbrev pub file_header : Headers → FileHeader
file_header h = record {
  machine = h.machine;
  number_of_sections = h.number_of_sections;
  time_date_stamp = h.time_date_stamp;
  pointer_to_symbol_table = h.pointer_to_symbol_table;
  number_of_symbols = h.number_of_symbols;
  size_of_optional_header = h.size_of_optional_header;
  characteristics = h.characteristics;
}

-- ---- the optional header
unfoldable pub standard_members : Headers → List (List ℕ)
standard_members h =
    number (codes "magic") (magic_number h.magic)
    ∷ number (codes "major_linker_version") h.major_linker_version
    ∷ number (codes "minor_linker_version") h.minor_linker_version
    ∷ number (codes "size_of_code") h.size_of_code
    ∷ number (codes "size_of_initialized_data") h.size_of_initialized_data
    ∷ number (codes "size_of_uninitialized_data") h.size_of_uninitialized_data
    ∷ number (codes "address_of_entry_point") h.address_of_entry_point
    ∷ number (codes "base_of_code") h.base_of_code
    ∷ []

-- PE32 alone has it
unfoldable pub base_of_data_members : Option ℕ → List (List ℕ)
base_of_data_members None = []
base_of_data_members (Some rva) = number (codes "base_of_data") rva ∷ []

unfoldable pub version_members : Headers → List (List ℕ)
version_members h =
    wide (codes "image_base") h.image_base
    ∷ number (codes "section_alignment") h.section_alignment
    ∷ number (codes "file_alignment") h.file_alignment
    ∷ number (codes "major_operating_system_version") h.major_operating_system_version
    ∷ number (codes "minor_operating_system_version") h.minor_operating_system_version
    ∷ number (codes "major_image_version") h.major_image_version
    ∷ number (codes "minor_image_version") h.minor_image_version
    ∷ number (codes "major_subsystem_version") h.major_subsystem_version
    ∷ number (codes "minor_subsystem_version") h.minor_subsystem_version
    ∷ []

unfoldable pub size_members : Headers → List (List ℕ)
size_members h =
    number (codes "win32_version_value") h.win32_version_value
    ∷ number (codes "size_of_image") h.size_of_image
    ∷ number (codes "size_of_headers") h.size_of_headers
    ∷ number (codes "check_sum") h.check_sum
    ∷ number (codes "subsystem") h.subsystem
    ∷ []

unfoldable pub last_members : Headers → List (List ℕ)
last_members h =
    number (codes "dll_characteristics") h.dll_characteristics
    ∷ flags_member (codes "dll_characteristics_flags") Dll h.dll_characteristics
    ∷ wide (codes "size_of_stack_reserve") h.size_of_stack_reserve
    ∷ wide (codes "size_of_stack_commit") h.size_of_stack_commit
    ∷ wide (codes "size_of_heap_reserve") h.size_of_heap_reserve
    ∷ wide (codes "size_of_heap_commit") h.size_of_heap_commit
    ∷ number (codes "loader_flags") h.loader_flags
    ∷ number (codes "number_of_rva_and_sizes") h.number_of_rva_and_sizes
    ∷ []

abbrev pub optional_members : Headers → List (List ℕ)
optional_members h =
    standard_members h ++ (base_of_data_members h.base_of_data ++ (version_members h
    ++ (size_members h ++ (text_if (codes "subsystem_name") (name_in subsystem_names h.subsystem) ++ last_members h))))

-- all fields of the headers, in the order of "PE Format"
abbrev pub headers_object : Headers → List ℕ
headers_object h = object (coff_members (file_header h) ++ optional_members h)

-- ---- the data directories
unfoldable pub place_members : Directory → List (List ℕ)
place_members d = number (codes "virtual_address") d.rva ∷ number (codes "size") d.size ∷ []

-- a directory, with its index
abbrev pub directory_row : ℕ → Directory → List ℕ
directory_row index d = object (number (codes "index") index ∷ (text_if (codes "name") (name_in directory_names index) ++ place_members d))

abbrev pub directories_list : List Directory → List ℕ
directories_list directories = list (numbered_rows directory_row 0 directories)
