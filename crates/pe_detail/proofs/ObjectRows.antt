-- The numbers of faults of objects, by the definitions, as examples. The bytes of a record differ from each other, so that each
-- field, its width and its order tell apart ("PE Format", COFF File Header, Section Table, COFF Symbol Table, COFF Relocations).
use Rattle.std.proofs.Common.{◌≡◌, ℕ, ◌++◌, List, [], ◌∷◌, Option, Some, None, drop, take, refl}
use Rattle.std.specs.List.{range_with_len}
use Rattle.pe_head.specs.declared.detail.FaultDetail.TheVariants.{PastFile}
use Rattle.coff_read.specs.Field.{field}
use Rattle.pe_detail.specs.ObjectDetail.{object_detail}
use Rattle.pe_detail.specs.declared.detail.Detail.{Detail}
use Rattle.pe_detail.specs.declared.detail.Detail.TheVariants.{Head, Index, TableSize, NameOffset, Auxiliary}

-- 60 bytes: a file header of bytes 1 to 20, and a section header of bytes 21 to 60. The first claims 0x0403 sections, 0x100f0e0d symbols at
-- 0x0c0b0a09 and an optional header of 0x1211 bytes
abbrev claims : List ℕ
claims = range_with_len 1 60

-- 78 bytes: no section, 3 symbol records at 20, of bytes 21 to 38, 39 to 56 and 57 to 74, and after them the string table, whose size
-- is 25
abbrev symbols : List ℕ
symbols =
    0x64 ∷ 0x86 ∷ 0 ∷ 0 ∷ 0 ∷ 0 ∷ 0 ∷ 0 ∷ 20 ∷ 0 ∷ 0 ∷ 0 ∷ 3 ∷ 0 ∷ 0 ∷ 0 ∷ 0 ∷ 0 ∷ 0 ∷ 0 ∷ []
    ++ (range_with_len 21 54 ++ (25 ∷ 0 ∷ 0 ∷ 0 ∷ []))

-- the same, with zeros in the first half of the name of the second symbol
abbrev named : List ℕ
named = take 38 symbols ++ (0 ∷ 0 ∷ 0 ∷ 0 ∷ [] ++ drop 42 symbols)

-- 120 bytes: 2 sections after an optional header of 8 bytes, and the symbol table at no offset
abbrev no_symbols : List ℕ
no_symbols =
    0x64 ∷ 0x86 ∷ 2 ∷ 0 ∷ 0 ∷ 0 ∷ 0 ∷ 0 ∷ 0 ∷ 0 ∷ 0 ∷ 0 ∷ 3 ∷ 0 ∷ 0 ∷ 0 ∷ 8 ∷ 0 ∷ 0 ∷ 0 ∷ [] ++ range_with_len 21 100

-- the same, with zeros at 30
abbrev in_sections : List ℕ
in_sections = take 30 no_symbols ++ (0 ∷ 0 ∷ 0 ∷ 0 ∷ [] ++ drop 34 no_symbols)

-- faults of a file of 1,000 bytes that begins with these
abbrev detail_of : List ℕ → ℕ → ℕ → Option Detail
detail_of file number at = object_detail file 1000 number at

-- 40 bytes a section, after the optional header
section_table : detail_of claims 63 2 ≡ Some (Head (PastFile 41080 0x1225 1000))
unfolding field
section_table = refl

-- SizeOfRawData and PointerToRawData
raw_data : detail_of claims 64 20 ≡ Some (Head (PastFile 0x28272625 0x2c2b2a29 1000))
unfolding field
raw_data = refl

-- 10 bytes a relocation: NumberOfRelocations and PointerToRelocations
relocations : detail_of claims 66 20 ≡ Some (Head (PastFile 0x21e12 0x302f2e2d 1000))
unfolding field
relocations = refl

-- 18 bytes a symbol
symbol_table : detail_of claims 67 8 ≡ Some (Head (PastFile 0x1210efcea 0x0c0b0a09 1000))
unfolding field
symbol_table = refl

-- the size of a string table, which is cut off, too small, or too great
strings_cut : detail_of claims 68 57 ≡ Some (Head (PastFile 4 57 1000))
unfolding field
strings_cut = refl

strings_of_3 : detail_of (3 ∷ 0 ∷ 0 ∷ 0 ∷ claims) 68 0 ≡ Some (TableSize 3)
unfolding field
strings_of_3 = refl

strings_of_4 : detail_of (4 ∷ 0 ∷ 0 ∷ 0 ∷ claims) 68 0 ≡ Some (Head (PastFile 4 0 1000))
unfolding field
strings_of_4 = refl

strings_past : detail_of claims 68 56 ≡ Some (Head (PastFile 0x3c3b3a39 56 1000))
unfolding field
strings_past = refl

-- of a symbol's name whose first half is 0 the second is its offset, which is compared with the size of the string table
name_of_a_symbol : detail_of named 69 38 ≡ Some (NameOffset 0x2e2d2c2b 25)
unfolding field
name_of_a_symbol = refl

-- also in the section table; without a symbol table that of strings is empty
name_in_sections : detail_of in_sections 69 30 ≡ Some (NameOffset 0x26252423 0)
unfolding field
name_in_sections = refl

-- the name of a section that tells an offset begins with no zero byte
name_of_a_section : detail_of no_symbols 69 28 ≡ None
unfolding field
name_of_a_section = refl

name_of_one_byte : detail_of named 69 37 ≡ None
unfolding field
name_of_one_byte = refl

-- a record that the file does not hold
name_cut : detail_of (take 45 named) 69 38 ≡ None
unfolding field
name_cut = refl

-- the last byte of a symbol counts its auxiliary records, and after the first of 3 symbols 2 are left
auxiliary_of_first : detail_of symbols 70 20 ≡ Some (Auxiliary 38 2)
unfolding field
auxiliary_of_first = refl

auxiliary_of_last : detail_of symbols 70 56 ≡ Some (Auxiliary 74 0)
unfolding field
auxiliary_of_last = refl

-- SectionNumber has 2 bytes
section_number : detail_of no_symbols 71 20 ≡ Some (Index 0x2221 2)
unfolding field
section_number = refl

-- the symbol of a relocation, whose number of records is 0 without a symbol table
symbol_index : detail_of symbols 72 30 ≡ Some (Index 0x26252423 3)
unfolding field
symbol_index = refl

symbol_index_of_none : detail_of no_symbols 72 30 ≡ Some (Index 0x26252423 0)
unfolding field
symbol_index_of_none = refl

-- these compare no numbers, and a file without a header has none
number_62 : detail_of claims 62 0 ≡ None
unfolding field
number_62 = refl

number_65 : detail_of claims 65 20 ≡ None
unfolding field
number_65 = refl

number_73 : detail_of claims 73 20 ≡ None
unfolding field
number_73 = refl

no_header : detail_of (take 19 claims) 68 0 ≡ None
no_header = refl

-- fields that are not all in the file
no_raw_data : detail_of claims 64 37 ≡ None
unfolding field
no_raw_data = refl

no_name : detail_of symbols 69 71 ≡ None
unfolding field
no_name = refl

no_auxiliary : detail_of symbols 70 61 ≡ None
unfolding field
no_auxiliary = refl

no_section_number : detail_of symbols 71 65 ≡ None
unfolding field
no_section_number = refl

no_symbol_index : detail_of symbols 72 71 ≡ None
unfolding field
no_symbol_index = refl
