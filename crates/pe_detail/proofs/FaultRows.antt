-- The numbers of faults of a file, by the definitions, as examples: which table's numbers they are, and those of the headers
-- ("PE Format", Signature, COFF File Header, Optional Header, Section Table).
use Rattle.std.proofs.Common.{◌≡◌, ℕ, List, [], ◌∷◌, Option, Some, None, take, refl}
use Rattle.pe_view.specs.declared.fault.Place.{Place}
use Rattle.pe_view.specs.declared.fault.Place.TheVariants.{File, Rva, Address, Item}
use Rattle.pe_head.specs.V1.{put, v1}
use Rattle.pe_head.specs.HeaderFaults.{head_tests}
use Rattle.pe_head.specs.declared.detail.FaultDetail.TheVariants.{FileSize, OverLimit, Signature, PastFile, NumberOfSections, SizeOfImage, FixedFields, Directories, SectionTable, HeadersEnd, SectionEnd, InHeaders, InSection}
use Rattle.pe_layout.specs.SectionFaults.{sections_tests}
use Rattle.coff_read.specs.Field.{field}
use Rattle.pe_detail.specs.FaultDetail.{fault_detail}
use Rattle.pe_detail.specs.declared.detail.Detail.{Detail}
use Rattle.pe_detail.specs.declared.detail.Detail.TheVariants.{Head, PastImage, Outside, BlockSize, ImageSize, ImageBase, TableSize}

-- a fault of a file of 0x400 bytes, at a place
abbrev detail_of : List ℕ → ℕ → Place → Option Detail
detail_of file number place = fault_detail file 0x400 (record { number = number; image = 7; place = place })

-- V1 with an export directory at 0x1000 and a base relocation directory of 8 bytes at 0x1004. Its bytes from 0x1000 on are 0 to 15
abbrev tables : List ℕ
tables = put 0xb9 (0x10 ∷ []) (put 0xe0 (0x04 ∷ 0x10 ∷ 0 ∷ 0 ∷ 8 ∷ []) v1)

-- ---- the file's size, which the place has
file_size : detail_of [] 2 (File 20) ≡ Some (Head (FileSize 20))
file_size = refl

object_size : detail_of [] 61 (File 0x100000000) ≡ Some (Head (FileSize 0x100000000))
object_size = refl

over_limit : detail_of [] 61 (File 0x100000001) ≡ Some (Head OverLimit)
over_limit = refl

-- ---- headers: the signature of V1 is at 0x40, its optional header of 224 bytes at 0x58, and its section header at 0x138
signature : detail_of (take 64 v1) 4 (File 60) ≡ Some (Head (Signature 0x40 0x400))
signature = refl

fixed_fields : detail_of (put 0x54 (0x5f ∷ []) v1) 7 (File 0x54) ≡ Some (Head (FixedFields 95 96))
fixed_fields = refl

directories : detail_of (put 0x54 (0xdf ∷ []) v1) 7 (File 0x54) ≡ Some (Head (Directories 223 16 224))
directories = refl

optional_header : detail_of v1 8 (File 0x54) ≡ Some (Head (PastFile 224 0x58 0x400))
optional_header = refl

sections : detail_of (put 0x46 (0x61 ∷ 0x01 ∷ []) v1) 9 (File 0x46) ≡ Some (Head (NumberOfSections 0x161))
sections = refl

section_table : detail_of (put 0x46 (0x03 ∷ []) v1) 10 (File 0x46) ≡ Some (Head (PastFile 120 0x138 0x400))
section_table = refl

image_size : detail_of (put 0x90 (1 ∷ 2 ∷ 3 ∷ 0x84 ∷ []) v1) 11 (File 0x90) ≡ Some (Head (SizeOfImage 0x84030201))
image_size = refl

headers_before_table : detail_of (put 0x94 (0x50 ∷ 0x01 ∷ []) v1) 12 (File 0x94) ≡ Some (Head (SectionTable 0x150 0x160))
headers_before_table = refl

headers_past_file : detail_of (put 0x94 (0x01 ∷ 0x04 ∷ []) v1) 12 (File 0x94) ≡ Some (Head (PastFile 0x401 0 0x400))
headers_past_file = refl

headers_past_image : detail_of (put 0x90 (0xff ∷ 0x01 ∷ []) v1) 12 (File 0x94) ≡ Some (Head (HeadersEnd 0x200 0x1ff))
headers_past_image = refl

-- ---- sections
raw_data : detail_of v1 13 (File 0x138) ≡ Some (Head (PastFile 16 0x200 0x400))
raw_data = refl

section_end : detail_of v1 14 (File 0x138) ≡ Some (Head (SectionEnd 0x1010 0x3000))
section_end = refl

section_in_headers : detail_of (put 0x144 (0xff ∷ 0x01 ∷ []) v1) 15 (File 0x138) ≡ Some (Head (InHeaders 0x1ff 0x200))
section_in_headers = refl

-- two sections, of which the second has its header at 0x160
section_in_section : detail_of (put 0x46 (2 ∷ []) (put 0x16c (0x04 ∷ 0x10 ∷ []) v1)) 15 (File 0x160) ≡ Some (Head (InSection 0x1004 0x1010))
section_in_section = refl

-- ---- tables of a laid-out image
of_exports : detail_of tables 16 (Rva 0x1000) ≡ Some (PastImage 40 0x1000 0x3000)
unfolding head_tests sections_tests
of_exports = refl

last_of_exports : detail_of tables 22 (Rva 0x1003) ≡ Some (Outside 0x06050403 0x3000)
unfolding head_tests sections_tests
last_of_exports = refl

of_imports : detail_of v1 24 (Rva 0x2fed) ≡ Some (PastImage 20 0x2fed 0x3000)
unfolding head_tests sections_tests
of_imports = refl

of_fixups : detail_of tables 33 (Rva 0x1004) ≡ Some (BlockSize 0x0b0a0908 8)
unfolding head_tests sections_tests
of_fixups = refl

-- a file that has a fault of its headers or sections is not laid out
not_laid_out : detail_of (take 0x20f v1) 24 (Rva 0x2fed) ≡ None
unfolding head_tests sections_tests
not_laid_out = refl

of_no_table : detail_of v1 39 (Rva 0x1000) ≡ None
unfolding head_tests sections_tests
of_no_table = refl

-- ---- bases
past_space : detail_of v1 45 (Address 0xffff0000) ≡ Some (ImageSize 0x3000)
unfolding head_tests sections_tests
past_space = refl

stripped : detail_of v1 46 (Address 0x20000000) ≡ Some (ImageBase 0x10000000)
unfolding head_tests sections_tests
stripped = refl

not_aligned : detail_of v1 44 (Address 0x10001) ≡ None
unfolding head_tests sections_tests
not_aligned = refl

-- ---- objects
of_object : detail_of (3 ∷ 0 ∷ 0 ∷ 0 ∷ take 64 v1) 68 (File 0) ≡ Some (TableSize 3)
unfolding field
of_object = refl

-- ---- sets
of_set : detail_of v1 42 (Item 1) ≡ None
of_set = refl
