-- The numbers of faults of imports, by the definitions, as examples. The bytes of the tables differ from each other, so that each
-- field, its width and its order tell apart ("PE Format", Import Directory Table, Import Lookup Table).
use Rattle.std.proofs.Common.{◌≡◌, ℕ, ◌-◌, ◌++◌, false, List, [], ◌∷◌, Some, None, get_or, refl}
use Rattle.std.specs.List.{range_with_len}
use Rattle.pe_layout.specs.Image.{LaidOut}
use Rattle.pe_detail.specs.ImportDetail.{import_detail}
use Rattle.pe_detail.specs.declared.detail.Detail.TheVariants.{PastImage, Outside, Unended, Limit, HighBits, TimeStamp}

-- a descriptor at 0x1020, of bytes 1 to 20: its time stamp is 0x08070605, and its name is at 0x100f0e0d; at 0x1034 a lookup entry of 4
-- bytes to the name at 0x1038, at 0x1038 one of 8 bytes with bits 31, 32 and 59, and at 0x1040 an RVA
abbrev bytes : List ℕ
bytes = range_with_len 1 20 ++ (0x36 ∷ 0x10 ∷ 0x00 ∷ 0x80 ∷ 0x36 ∷ 0x10 ∷ 0x00 ∷ 0x80 ∷ 0x01 ∷ 0x00 ∷ 0x00 ∷ 0x08 ∷ 0x3a ∷ 0x10 ∷ 0x00 ∷ 0x00 ∷ [])

-- an image of 0x1044 bytes with these at 0x1020, and with slots of this width; from each RVA on 9 bytes come from the file, and no
-- string is there
abbrev image : ℕ → LaidOut
image width = record {
  number = 0;
  size = 0x1044;
  byte = λ rva. get_or bytes (rva - 0x1020) 0;
  raw_left = λ _. 9;
  text = λ _. None;
  directory = λ _. None;
  slot_width = width;
  image_base = 0x10000000;
  is_stripped = false;
}

-- a descriptor, and a lookup entry in PE32 and in PE32+
descriptor : import_detail (image 4) 24 0x1031 ≡ Some (PastImage 20 0x1031 0x1044)
descriptor = refl

entry : import_detail (image 4) 26 0x1041 ≡ Some (PastImage 4 0x1041 0x1044)
entry = refl

entry_of_8 : import_detail (image 8) 26 0x103d ≡ Some (PastImage 8 0x103d 0x1044)
entry_of_8 = refl

-- the place of 25 is the field itself, 12 bytes after the descriptor: past the image, and to bytes that no zero byte follows
module_outside : import_detail (image 4) 25 0x102c ≡ Some (Outside 0x100f0e0d 0x1044)
module_outside = refl

module_unended : import_detail (image 4) 25 0x1040 ≡ Some (Unended 0x103a 0x1043)
module_unended = refl

no_module : import_detail (image 4) 25 0x1041 ≡ None
no_module = refl

-- bit 31 is not of the RVA, and the hint takes two bytes
name : import_detail (image 4) 27 0x1034 ≡ Some (Unended 0x1038 0x1041)
name = refl

name_outside : import_detail (image 4) 27 0x102c ≡ Some (Outside 0x100f0e0f 0x1044)
name_outside = refl

-- nor is any bit above it in PE32+
name_of_8 : import_detail (image 8) 27 0x1038 ≡ Some (Unended 0x1038 0x1041)
name_of_8 = refl

no_name : import_detail (image 8) 27 0x103d ≡ None
no_name = refl

-- bits 31 to 62
bits : import_detail (image 8) 28 0x1038 ≡ Some (HighBits 0x10000003)
bits = refl

-- one import more than an image may have
limit : import_detail (image 4) 31 0x1034 ≡ Some (Limit 1048577 1048576)
limit = refl

-- the place of 32 is the descriptor, whose time stamp is 4 bytes after its lookup table's RVA
time_stamp : import_detail (image 4) 32 0x1020 ≡ Some (TimeStamp 0x08070605)
time_stamp = refl

no_time_stamp : import_detail (image 4) 32 0x103d ≡ None
no_time_stamp = refl

-- these compare no numbers
number_23 : import_detail (image 4) 23 0x1034 ≡ None
number_23 = refl

number_29 : import_detail (image 4) 29 0x1034 ≡ None
number_29 = refl

number_30 : import_detail (image 4) 30 0x1034 ≡ None
number_30 = refl

number_33 : import_detail (image 4) 33 0x1034 ≡ None
number_33 = refl
