-- The numbers of faults of base relocations, by the definitions, as examples ("PE Format", The .reloc Section).
use Rattle.std.proofs.Common.{◌≡◌, ℕ, ◌-◌, false, List, [], ◌∷◌, Some, None, get_or, refl}
use Rattle.std.specs.Prelude.{◌==◌, if◌then◌else◌, Option}
use Rattle.pe_head.specs.declared.directory.Directory.{Directory}
use Rattle.pe_layout.specs.Image.{LaidOut}
use Rattle.pe_detail.specs.FixupDetail.{fixup_detail}
use Rattle.pe_detail.specs.declared.detail.Detail.TheVariants.{PastImage, BlockSize, EntryType, FieldBytes}

-- the directory of index 5, of this size
abbrev relocations : ℕ → ℕ → Option Directory
relocations size k = if k == 5 then Some (record { rva = 0x2020; size = size }) else None

-- at 0x2020 a block of 12 bytes for the page 0x1000, with entries of types 3 and 10, at 0x202c one of 14 bytes for the page
-- 0x04030201, with entries of types 1, 2 and 9, and at 0x203a one of size 0
abbrev bytes : List ℕ
bytes =
    0x00 ∷ 0x10 ∷ 0x00 ∷ 0x00 ∷ 0x0c ∷ 0x00 ∷ 0x00 ∷ 0x00 ∷ 0x08 ∷ 0x30 ∷ 0xfc ∷ 0xaf
    ∷ 0x01 ∷ 0x02 ∷ 0x03 ∷ 0x04 ∷ 0x0e ∷ 0x00 ∷ 0x00 ∷ 0x00 ∷ 0x05 ∷ 0x10 ∷ 0x06 ∷ 0x27 ∷ 0x07 ∷ 0x98
    ∷ 0x00 ∷ 0x30 ∷ 0x00 ∷ 0x00 ∷ 0x00 ∷ 0x00 ∷ 0x00 ∷ 0x00 ∷ 0x08 ∷ 0x30 ∷ []

-- an image of 0x2044 bytes with these at 0x2020, and with a directory of this size
abbrev image : ℕ → LaidOut
image size = record {
  number = 0;
  size = 0x2044;
  byte = λ rva. get_or bytes (rva - 0x2020) 0;
  raw_left = λ _. 0;
  text = λ _. None;
  directory = relocations size;
  slot_width = 4;
  image_base = 0x10000000;
  is_stripped = false;
}

-- BlockSize is 4 bytes after PageRVA, and the directory ends at 0x2040
block : fixup_detail (image 0x20) 33 0x202c ≡ Some (BlockSize 14 0x14)
block = refl

block_of_4_bytes : fixup_detail (image 0x20) 33 0x2028 ≡ Some (BlockSize 0x04030201 0x18)
block_of_4_bytes = refl

no_block : fixup_detail (image 0x20) 33 0x203d ≡ None
no_block = refl

-- the directory itself
directory : fixup_detail (image 0x25) 34 0x2020 ≡ Some (PastImage 0x25 0x2020 0x2044)
directory = refl

-- the type is the high four bits of an entry, and the low twelve are added to the page of its block
type_of_first : fixup_detail (image 0x20) 35 0x2028 ≡ Some (EntryType 3 0x1008)
type_of_first = refl

type_of_last_of_first : fixup_detail (image 0x20) 35 0x202a ≡ Some (EntryType 10 0x1ffc)
type_of_last_of_first = refl

type_of_second : fixup_detail (image 0x20) 35 0x2034 ≡ Some (EntryType 1 0x04030206)
type_of_second = refl

type_of_last : fixup_detail (image 0x20) 35 0x2038 ≡ Some (EntryType 9 0x04030a08)
type_of_last = refl

-- a block of size 0 ends the table, and so does the directory
after_the_last : fixup_detail (image 0x24) 35 0x2042 ≡ None
after_the_last = refl

after_the_directory : fixup_detail (image 0x13) 35 0x2034 ≡ None
after_the_directory = refl

-- the same page for a directory that ends with the header of its block
directory_of_headers : fixup_detail (image 0x14) 35 0x2034 ≡ Some (EntryType 1 0x04030206)
directory_of_headers = refl

-- 4 bytes for type 3, 8 for 10, and 2 for 1 and 2
field_of_4 : fixup_detail (image 0x20) 36 0x2028 ≡ Some (PastImage 4 0x1008 0x2044)
field_of_4 = refl

field_of_8 : fixup_detail (image 0x20) 37 0x202a ≡ Some (FieldBytes 8 0x1ffc)
field_of_8 = refl

field_of_high : fixup_detail (image 0x20) 36 0x2034 ≡ Some (PastImage 2 0x04030206 0x2044)
field_of_high = refl

field_of_low : fixup_detail (image 0x20) 38 0x2036 ≡ Some (FieldBytes 2 0x04030907)
field_of_low = refl

-- no field has this type
no_field : fixup_detail (image 0x20) 36 0x2038 ≡ None
no_field = refl

-- a directory that is not all in the image, and none
directory_outside : fixup_detail (image 0x25) 35 0x2028 ≡ None
directory_outside = refl

no_directory : fixup_detail (record (image 0x20) { directory = λ _. None }) 34 0x2020 ≡ None
no_directory = refl
