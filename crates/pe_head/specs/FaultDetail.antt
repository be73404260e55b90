-- The numbers that the rule of a fault compares, in the words of the rules: functions of the file's first bytes, of its size and of
-- the fault. There are none if not all of them are among these bytes.
use Rattle.std.specs.Prelude.{ℕ, ◌+◌, ◌-◌, ◌*◌, ◌/◌, ◌^◌, ◌==◌, ◌&&◌, ◌||◌, Bool, nat_lt, nat_le, List, length, Option, None, Some, if◌then◌else◌}
use Rattle.pe_view.specs.declared.fault.Fault.{Fault}
use Rattle.pe_view.specs.declared.fault.Place.{Place}
use Rattle.pe_view.specs.declared.fault.Place.TheVariants.{File, Rva, Address, Item}
use Rattle.pe_head.specs.declared.section.SectionHeader.{SectionHeader}
use Rattle.pe_head.specs.Section.{extent, rawlen}
use Rattle.pe_head.specs.Head.{pe_offset, coff_field, field, fixed_size, optional_start, directory_count, table_start, section_start, section_at}
use Rattle.pe_head.specs.HeaderFaults.{directory_bytes}
use Rattle.pe_head.specs.declared.detail.FaultDetail.{FaultDetail}
use Rattle.pe_head.specs.declared.detail.FaultDetail.TheVariants.{FileSize, OverLimit, Signature, PastFile, NumberOfSections, SizeOfImage, FixedFields, Directories, SectionTable, HeadersEnd, SectionEnd, InHeaders, InSection}

-- the first bytes hold the headers up to `size` bytes of the optional header
abbrev pub holds_optional : List ℕ → ℕ → Bool
holds_optional first size = nat_le 64 (length first) && nat_le (optional_start first + size) (length first)

-- the same, and the fields of section i's header up to PointerToRawData
abbrev pub holds_section : List ℕ → ℕ → Bool
holds_section first i = holds_optional first 64 && nat_le (section_start first i + 24) (length first)

abbrev pub told_if : Bool → FaultDetail → Option FaultDetail
told_if held detail = if held then Some detail else None

-- faults 2 and 61: the size of a file, which is read up to 2^32 + 1 bytes
abbrev pub size_detail : ℕ → FaultDetail
size_detail size = if nat_lt (2 ^ 32) size then OverLimit else FileSize size

-- fault 4
abbrev pub signature_detail : List ℕ → ℕ → Option FaultDetail
signature_detail first size = told_if (nat_le 64 (length first)) (Signature (pe_offset first) size)

-- fault 7: SizeOfOptionalHeader, and the size that the fixed fields, or these and the directories, have
abbrev pub directories_detail : List ℕ → Option FaultDetail
directories_detail first =
    told_if (holds_optional first (fixed_size first)) (Directories (coff_field first 16 2) (directory_count first) (fixed_size first + directory_bytes first))

abbrev pub optional_size_detail : List ℕ → Option FaultDetail
optional_size_detail first =
    if holds_optional first 2
    then (if nat_lt (coff_field first 16 2) (fixed_size first) then Some (FixedFields (coff_field first 16 2) (fixed_size first)) else directories_detail first)
    else None

-- fault 8
abbrev pub optional_end_detail : List ℕ → ℕ → Option FaultDetail
optional_end_detail first size = told_if (holds_optional first 0) (PastFile (coff_field first 16 2) (optional_start first) size)

-- fault 9
abbrev pub sections_detail : List ℕ → Option FaultDetail
sections_detail first = told_if (holds_optional first 0) (NumberOfSections (coff_field first 2 2))

-- fault 10
abbrev pub table_end_detail : List ℕ → ℕ → Option FaultDetail
table_end_detail first size = told_if (holds_optional first 0) (PastFile (40 * coff_field first 2 2) (table_start first) size)

-- fault 11
abbrev pub image_size_detail : List ℕ → Option FaultDetail
image_size_detail first = told_if (holds_optional first 60) (SizeOfImage (field first 56 4))

-- fault 12: where SizeOfHeaders says that the headers end, and the first of the three ends that breaks the rule
abbrev pub headers_end : List ℕ → ℕ → FaultDetail
headers_end first size =
    if nat_lt (field first 60 4) (section_start first (coff_field first 2 2))
    then SectionTable (field first 60 4) (section_start first (coff_field first 2 2))
    else (if nat_lt size (field first 60 4) then PastFile (field first 60 4) 0 size else HeadersEnd (field first 60 4) (field first 56 4))

abbrev pub headers_detail : List ℕ → ℕ → Option FaultDetail
headers_detail first size = told_if (holds_optional first 64) (headers_end first size)

-- the index of the section whose header is at a file offset
abbrev pub section_index : List ℕ → ℕ → ℕ
section_index first offset = (offset - table_start first) / 40

-- the RVA at which a section ends
abbrev pub end_of : SectionHeader → ℕ
end_of s = s.virtual_address + extent s

-- fault 13 of section i
abbrev pub raw_data_detail : List ℕ → ℕ → ℕ → Option FaultDetail
raw_data_detail first size i =
    told_if (holds_section first i) (PastFile (rawlen (section_at first i)) (section_at first i).pointer_to_raw_data size)

-- fault 14 of section i
abbrev pub section_end_detail : List ℕ → ℕ → Option FaultDetail
section_end_detail first i = told_if (holds_section first i) (SectionEnd (end_of (section_at first i)) (field first 56 4))

-- fault 15 of section i: where it begins, and the end of the headers or of the section before it
abbrev pub section_begin : List ℕ → ℕ → Option FaultDetail
section_begin first i =
    if nat_lt (section_at first i).virtual_address (field first 60 4)
    then Some (InHeaders (section_at first i).virtual_address (field first 60 4))
    else told_if (nat_lt 0 i) (InSection (section_at first i).virtual_address (end_of (section_at first (i - 1))))

abbrev pub section_begin_detail : List ℕ → ℕ → Option FaultDetail
section_begin_detail first i = if holds_section first i then section_begin first i else None

-- faults 13 to 15 of the section whose header is at a file offset
abbrev pub section_detail : List ℕ → ℕ → ℕ → ℕ → Option FaultDetail
section_detail first size number offset =
    if number == 13 then raw_data_detail first size (section_index first offset)
    else (if number == 14 then section_end_detail first (section_index first offset)
    else (if number == 15 then section_begin_detail first (section_index first offset)
    else None))

-- faults 4 and 7 to 12
abbrev pub header_detail : List ℕ → ℕ → ℕ → Option FaultDetail
header_detail first size number =
    if number == 4 then signature_detail first size
    else (if number == 7 then optional_size_detail first
    else (if number == 8 then optional_end_detail first size
    else (if number == 9 then sections_detail first
    else (if number == 10 then table_end_detail first size
    else (if number == 11 then image_size_detail first
    else (if number == 12 then headers_detail first size
    else None))))))

-- faults at a file offset
abbrev pub offset_detail : List ℕ → ℕ → ℕ → ℕ → Option FaultDetail
offset_detail first size number offset =
    if number == 2 || number == 61 then Some (size_detail offset)
    else (if nat_le 13 number && nat_le number 15 then section_detail first size number offset else header_detail first size number)

abbrev pub detail_at : List ℕ → ℕ → ℕ → Place → Option FaultDetail
detail_at first size number (File offset) = offset_detail first size number offset
detail_at first size number (Rva rva) = header_detail first size number
detail_at first size number (Address address) = header_detail first size number
detail_at first size number (Item item) = header_detail first size number

-- the numbers that the rule of a fault compares, in a file of `size` bytes with these first ones
abbrev pub fault_detail : List ℕ → ℕ → Fault → Option FaultDetail
fault_detail first size fault = detail_at first size fault.number fault.place
