-- The numbers of faults of exports, by the definitions, as examples. The bytes of the tables differ from each other, so that each
-- field, its width and its order tell apart ("PE Format", Export Directory Table).
use Rattle.std.proofs.Common.{◌≡◌, ℕ, ◌-◌, ◌++◌, false, List, [], ◌∷◌, Some, None, drop, get_or, refl}
use Rattle.std.specs.Prelude.{◌==◌, if◌then◌else◌, Option}
use Rattle.std.specs.List.{range_with_len}
use Rattle.pe_view.specs.Text.{zero_ended}
use Rattle.pe_head.specs.declared.directory.Directory.{Directory}
use Rattle.pe_layout.specs.Image.{LaidOut}
use Rattle.pe_detail.specs.ExportDetail.{export_detail}
use Rattle.pe_detail.specs.declared.detail.Detail.TheVariants.{PastImage, Outside, Unended, Forwarder, Limit, Index}

-- the directory of index 0
abbrev exports : ℕ → Option Directory
exports k = if k == 0 then Some (record { rva = 0x1020; size = 0x60 }) else None

-- the export directory table, of bytes 1 to 40: the number of addresses is 0x18171615, that of names 0x1c1b1a19, and the tables are
-- at 0x201f1e1d, 0x24232221 and 0x28272625. At 0x1048 an address, at 0x104c the ordinal of a name, at 0x104e the string `a.b`
abbrev bytes : List ℕ
bytes = range_with_len 1 40 ++ (0x4e ∷ 0x10 ∷ 0x00 ∷ 0x00 ∷ 0x32 ∷ 0x31 ∷ 0x61 ∷ 0x2e ∷ 0x62 ∷ 0x00 ∷ 0x52 ∷ 0x10 ∷ 0x00 ∷ 0x00 ∷ [])

-- an image of 0x1056 bytes with these at 0x1020, and with that string alone; from each RVA on 9 bytes come from the file
abbrev image : LaidOut
image = record {
  number = 0;
  size = 0x1056;
  byte = λ rva. get_or bytes (rva - 0x1020) 0;
  raw_left = λ _. 9;
  text = λ rva. if rva == 0x104e then zero_ended (drop (rva - 0x1020) bytes) else None;
  directory = exports;
  slot_width = 4;
  image_base = 0x10000000;
  is_stripped = false;
}

-- the table itself
the_table : export_detail image 16 0x1020 ≡ Some (PastImage 40 0x1020 0x1056)
the_table = refl

-- 4 bytes an address, 4 a name pointer, 2 an ordinal
addresses : export_detail image 17 0x103c ≡ Some (PastImage 0x605c5854 0x201f1e1d 0x1056)
addresses = refl

pointers : export_detail image 17 0x1040 ≡ Some (PastImage 0x706c6864 0x24232221 0x1056)
pointers = refl

ordinals : export_detail image 17 0x1044 ≡ Some (PastImage 0x38363432 0x28272625 0x1056)
ordinals = refl

-- the two counts
count_of_addresses : export_detail image 18 0x1034 ≡ Some (Limit 0x18171615 65536)
count_of_addresses = refl

count_of_names : export_detail image 18 0x1038 ≡ Some (Limit 0x1c1b1a19 65536)
count_of_names = refl

-- a pointer past the image, one to bytes that no zero byte follows, and one that is not all in the image
pointer_outside : export_detail image 19 0x1041 ≡ Some (Outside 0x25242322 0x1056)
pointer_outside = refl

pointer_unended : export_detail image 19 0x1052 ≡ Some (Unended 0x1052 0x105b)
pointer_unended = refl

no_pointer : export_detail image 19 0x1053 ≡ None
no_pointer = refl

-- 2 bytes, which are compared with the number of addresses
ordinal : export_detail image 20 0x104c ≡ Some (Index 0x3132 0x18171615)
ordinal = refl

no_ordinal : export_detail image 20 0x1055 ≡ None
no_ordinal = refl

-- an address
address : export_detail image 21 0x1041 ≡ Some (Outside 0x25242322 0x1056)
address = refl

-- a forwarder with a string, without one, and past the image
forwarder : export_detail image 22 0x1048 ≡ Some (Forwarder 0x104e 3)
forwarder = refl

forwarder_unended : export_detail image 22 0x1052 ≡ Some (Unended 0x1052 0x105b)
forwarder_unended = refl

forwarder_outside : export_detail image 22 0x1041 ≡ Some (Outside 0x25242322 0x1056)
forwarder_outside = refl

-- other numbers, and no directory
number_15 : export_detail image 15 0x1020 ≡ None
number_15 = refl

number_23 : export_detail image 23 0x1020 ≡ None
number_23 = refl

no_directory : export_detail (record image { directory = λ _. None }) 16 0x1020 ≡ None
no_directory = refl
