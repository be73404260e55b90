-- The file of a plan, and the image that it lays out. Its headers are numbers, one for each field.
use Rattle.std.specs.Prelude.{ℕ, ◌+◌, ◌-◌, nat_lt, List, [], ◌∷◌, ◌++◌, length, replicate, Option, None, Some, if◌then◌else◌}
use Rattle.std.specs.List.{flat_map}
use Rattle.pe_view.specs.Number.{byte_of}
use Rattle.pe_numbers.specs.declared.number.Number.{Number}
use Rattle.pe_numbers.specs.declared.number.Number.TheVariants.{U8, U16, U32, U64}
use Rattle.pe_numbers.specs.Numbers.{numbers_bytes}
use Rattle.pe_head.specs.declared.optional.Magic.{Magic}
use Rattle.pe_head.specs.declared.optional.Magic.TheVariants.{Pe32, Pe32Plus}
use Rattle.pe_head.specs.declared.directory.Directory.{Directory}
use Rattle.pe_head.specs.declared.section.SectionHeader.{SectionHeader}
use Rattle.pe_head.specs.declared.headers.Headers.{Headers}
use Rattle.pe_head.specs.Head.{head_of}
use Rattle.pe_head.specs.Optional.{fixed_size_of, magic_number}
use Rattle.pe_write.specs.declared.plan.Plan.{Plan}
use Rattle.pe_write.specs.PlanFile.{headers_from, data_from, file_end, planned_from}

-- SizeOfOptionalHeader with 16 directories
abbrev pub optional_size : Magic → ℕ
optional_size magic = fixed_size_of magic + 128

-- a number in the width of an address
abbrev pub word : Magic → ℕ → Number
word Pe32 value = U32 value
word Pe32Plus value = U64 value

-- the file's first bytes: `MZ`, zeros, the offset of the signature, and the signature
abbrev pub dos_numbers : List Number
dos_numbers = U16 0x5a4d ∷ U16 0 ∷ U64 0 ∷ U64 0 ∷ U64 0 ∷ U64 0 ∷ U64 0 ∷ U64 0 ∷ U64 0 ∷ U32 0x40 ∷ U32 0x4550 ∷ []

-- the COFF header
abbrev pub coff_numbers : {A : Type 0} → Plan A → List Number
coff_numbers plan =
    U16 plan.machine ∷ U16 (length plan.sections.items) ∷ U32 plan.time_stamp ∷ U32 0 ∷ U32 0 ∷ U16 (optional_size plan.magic) ∷ U16 plan.characteristics ∷ []

-- the standard fields up to BaseOfCode
abbrev pub standard_numbers : {A : Type 0} → Plan A → List Number
standard_numbers plan = U16 (magic_number plan.magic) ∷ U8 0 ∷ U8 0 ∷ U32 0 ∷ U32 0 ∷ U32 0 ∷ U32 plan.entry ∷ U32 0 ∷ []

-- BaseOfData, in PE32 only
abbrev pub base_of_data_numbers : Magic → List Number
base_of_data_numbers Pe32 = U32 0 ∷ []
base_of_data_numbers Pe32Plus = []

-- from ImageBase to DllCharacteristics
abbrev pub image_numbers : {A : Type 0} → Plan A → List Number
image_numbers plan =
    word plan.magic plan.image_base ∷ U32 plan.section_alignment ∷ U32 plan.file_alignment ∷ U16 0 ∷ U16 0 ∷ U16 0 ∷ U16 0 ∷ U16 0 ∷ U16 0 ∷ U32 0
    ∷ U32 plan.size_of_image ∷ U32 plan.size_of_headers ∷ U32 0 ∷ U16 plan.subsystem ∷ U16 plan.dll_characteristics ∷ []

-- the reserved and committed sizes of stack and heap, LoaderFlags, and NumberOfRvaAndSizes
abbrev pub reserve_numbers : Magic → List Number
reserve_numbers magic = word magic 0 ∷ word magic 0 ∷ word magic 0 ∷ word magic 0 ∷ U32 0 ∷ U32 16 ∷ []

-- the optional header before its directories
abbrev pub optional_numbers : {A : Type 0} → Plan A → List Number
optional_numbers plan = standard_numbers plan ++ (base_of_data_numbers plan.magic ++ (image_numbers plan ++ reserve_numbers plan.magic))

abbrev pub directory_numbers : Directory → List Number
directory_numbers d = U32 d.rva ∷ U32 d.size ∷ []

-- the headers before the directories
abbrev pub front_numbers : {A : Type 0} → Plan A → List Number
front_numbers plan = dos_numbers ++ (coff_numbers plan ++ optional_numbers plan)

-- the headers before the section table
abbrev pub header_numbers : {A : Type 0} → Plan A → List Number
header_numbers plan = front_numbers plan ++ flat_map directory_numbers plan.directories

-- a section's header after its name
abbrev pub section_numbers : SectionHeader → List Number
section_numbers s =
    U32 s.virtual_size ∷ U32 s.virtual_address ∷ U32 s.size_of_raw_data ∷ U32 s.pointer_to_raw_data ∷ U32 s.pointer_to_relocations ∷ U32 s.pointer_to_linenumbers
    ∷ U16 s.number_of_relocations ∷ U16 s.number_of_linenumbers ∷ U32 s.characteristics ∷ []

abbrev pub section_bytes : SectionHeader → List ℕ
section_bytes s = s.name ++ numbers_bytes (section_numbers s)

abbrev pub plan_sections : {A : Type 0} → Plan A → List SectionHeader
plan_sections plan = headers_from plan.file_alignment plan.size_of_headers plan.sections.items

-- the headers with the section table
abbrev pub table_bytes : {A : Type 0} → Plan A → List ℕ
table_bytes plan = numbers_bytes (header_numbers plan) ++ flat_map section_bytes (plan_sections plan)

-- the headers, padded with zeros to SizeOfHeaders
abbrev pub header_bytes : {A : Type 0} → Plan A → List ℕ
header_bytes plan = table_bytes plan ++ replicate (plan.size_of_headers - length (table_bytes plan)) 0

-- the file
unfoldable pub plan_file : {A : Type 0} → Plan A → List ℕ
plan_file plan = header_bytes plan ++ data_from plan.file_alignment plan.size_of_headers plan.sections.items

-- its length
abbrev pub plan_size : {A : Type 0} → Plan A → ℕ
plan_size plan = file_end plan.file_alignment plan.size_of_headers plan.sections.items

-- the laid-out byte at an RVA: of the headers, or else of the section that contains it, where bytes past its raw data are 0
abbrev pub planned : {A : Type 0} → Plan A → ℕ → ℕ
planned plan r = if nat_lt r plan.size_of_headers then byte_of (header_bytes plan) r else planned_from plan.file_alignment plan.size_of_headers plan.sections.items r

abbrev pub base_of_data_of : Magic → Option ℕ
base_of_data_of Pe32 = Some 0
base_of_data_of Pe32Plus = None

-- the headers of the file: fields that the plan doesn't name are those of an empty file, 0
abbrev pub plan_headers : {A : Type 0} → Plan A → Headers
plan_headers plan = record (head_of []) {
  magic = plan.magic;
  pe_offset = 0x40;
  machine = plan.machine;
  number_of_sections = length plan.sections.items;
  time_date_stamp = plan.time_stamp;
  size_of_optional_header = optional_size plan.magic;
  characteristics = plan.characteristics;
  address_of_entry_point = plan.entry;
  base_of_data = base_of_data_of plan.magic;
  image_base = plan.image_base;
  section_alignment = plan.section_alignment;
  file_alignment = plan.file_alignment;
  size_of_image = plan.size_of_image;
  size_of_headers = plan.size_of_headers;
  subsystem = plan.subsystem;
  dll_characteristics = plan.dll_characteristics;
  number_of_rva_and_sizes = 16;
  directories = record { items = plan.directories };
  sections = record { items = plan_sections plan };
}
