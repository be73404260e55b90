-- Delay-loaded imports by the definitions, as examples.
use Rattle.std.proofs.Common.{◌≡◌, ℕ, ◌-◌, ◌++◌, false, true, List, [], ◌∷◌, Some, None, drop, get_or, length, map, refl}
use Rattle.std.specs.Prelude.{◌==◌, codes, if◌then◌else◌}
use Rattle.std.specs.List.{range_with_len}
use Rattle.pe_view.specs.declared.fault.Fault.{Fault}
use Rattle.pe_view.specs.declared.fault.Place.TheVariants.{Rva}
use Rattle.pe_view.specs.Standing.{standing}
use Rattle.pe_view.specs.Text.{zero_ended}
use Rattle.pe_layout.specs.Image.{LaidOut}
use Rattle.pe_tables.specs.Imports.{Import}
use Rattle.pe_tables.specs.Key.{Key, Ordinal, Name}
use Rattle.pe_delay.specs.Descriptors.{descriptor_at, descriptors_from}
use Rattle.pe_delay.specs.Entries.{entry_at}
use Rattle.pe_delay.specs.Findings.{delay_tests, entry_tests}
use Rattle.pe_delay.specs.Imports.{delay_imports_of}
use Rattle.pe_delay.specs.declared.descriptor.DelayDescriptor.{DelayDescriptor}

-- the numbers 1 to 64
fields : descriptor_at 0x1000 (range_with_len 1 64) 1
    ≡ record {
      rva = 0x1020;
      attributes = 0x24232221;
      name = 0x28272625;
      module_handle = 0x2c2b2a29;
      import_address_table = 0x302f2e2d;
      import_name_table = 0x34333231;
      bound_import_table = 0x38373635;
      unload_import_table = 0x3c3b3a39;
      time_stamp = 0x403f3e3d;
    }
fields = refl

-- an image of 0xa0 bytes at 0x10000, of which the file holds these in one run; its delay-load directory table is at 4
abbrev image_of : ℕ → List ℕ → LaidOut
image_of width held = record {
  number = 7;
  size = 0xa0;
  byte = λ rva. get_or held rva 0;
  raw_left = λ rva. length held - rva;
  text = λ rva. zero_ended (drop rva held);
  directory = λ k. if k == 13 then Some (record { rva = 4; size = 0 }) else None;
  slot_width = width;
  image_base = 0x10000;
  is_stripped = false;
}

-- what is before the table
abbrev start : List ℕ
start = 0xf1 ∷ 0xf2 ∷ 0xf3 ∷ 0xf4 ∷ []

-- a descriptor by its attributes, the name of its module, its slots and its names; the bytes at `high` are those at 2 in its fields
abbrev descriptor : ℕ → ℕ → ℕ → ℕ → ℕ → List ℕ
descriptor attributes high name slots names =
    attributes ∷ 0x00 ∷ 0x00 ∷ 0x00
    ∷ name ∷ 0x00 ∷ high ∷ 0x00
    ∷ 0x11 ∷ 0x12 ∷ 0x13 ∷ 0x14
    ∷ slots ∷ 0x00 ∷ high ∷ 0x00
    ∷ names ∷ 0x00 ∷ high ∷ 0x00
    ∷ 0x21 ∷ 0x22 ∷ 0x23 ∷ 0x24
    ∷ 0x31 ∷ 0x32 ∷ 0x33 ∷ 0x34
    ∷ 0x41 ∷ 0x42 ∷ 0x43 ∷ 0x44 ∷ []

-- one that ends the table: it has no name
abbrev last : List ℕ
last = descriptor 0x01 0x00 0x00 0x80 0x44

-- at 0x44 sixteen bytes of a name table; at 0x54 `A.DLL`, at 0x5a a hint and `fg`
abbrev image : ℕ → List ℕ → List ℕ → LaidOut
image width first names =
    image_of width
    (start ++ (first ++ (last ++ (names ++
    (0x41 ∷ 0x2e ∷ 0x44 ∷ 0x4c ∷ 0x4c ∷ 0x00 ∷ 0x02 ∷ 0x03 ∷ 0x66 ∷ 0x67 ∷ 0x00 ∷ [])))))

abbrev import : Key → ℕ → Import
import key slot = record { module_name = codes "A.DLL"; key = key; slot = slot }

abbrev found : ℕ → ℕ → Fault
found number rva = record { number = number; image = 7; place = Rva rva }

-- its name at 0x54, its slots at 0x90, its names at 0x44
abbrev plain : List ℕ
plain = descriptor 0x01 0x00 0x54 0x90 0x44

-- a name, an ordinal, and the end
abbrev name_and_ordinal : List ℕ
name_and_ordinal = 0x5a ∷ 0x00 ∷ 0x00 ∷ 0x00 ∷ 0x07 ∷ 0x01 ∷ 0x00 ∷ 0x80 ∷ 0x00 ∷ 0x00 ∷ 0x00 ∷ 0x00 ∷ 0x5a ∷ 0x00 ∷ 0x00 ∷ 0x00 ∷ []

two_imports : delay_imports_of (image 4 plain name_and_ordinal) ≡ import (Name (codes "fg")) 0x90 ∷ import (Ordinal 0x107) 0x94 ∷ []
two_imports = refl

no_finding : standing (delay_tests (image 4 plain name_and_ordinal)) ≡ []
no_finding = refl

-- the same, of addresses
by_addresses : delay_imports_of (image 4 (descriptor 0x02 0x01 0x54 0x90 0x44) (0x5a ∷ 0x00 ∷ 0x01 ∷ 0x00 ∷ 0x07 ∷ 0x01 ∷ 0x00 ∷ 0x80 ∷ 0x00 ∷ 0x00 ∷ 0x00 ∷ 0x00 ∷ 0x00 ∷ 0x00 ∷ 0x00 ∷ 0x00 ∷ []))
    ≡ import (Name (codes "fg")) 0x90 ∷ import (Ordinal 0x107) 0x94 ∷ []
by_addresses = refl

-- an address under ImageBase leads nowhere: the name, the slots, and the names
low_addresses : standing (delay_tests (image 4 (descriptor 0x02 0x00 0x54 0x90 0x44) name_and_ordinal)) ≡ found 162 4 ∷ found 163 0xa0 ∷ []
low_addresses = refl

-- the entry has an RVA in place of an address
low_name : standing (delay_tests (image 4 (descriptor 0x02 0x01 0x54 0x90 0x44) name_and_ordinal)) ≡ found 164 0x44 ∷ []
low_name = refl

-- in PE32+ entries and slots have eight bytes, and the top bit is bit 63; `A.DLL` is at 0x5c
eight_bytes : delay_imports_of (image 8 (descriptor 0x01 0x00 0x5c 0x90 0x44)
    (0x62 ∷ 0x00 ∷ 0x00 ∷ 0x00 ∷ 0x00 ∷ 0x00 ∷ 0x00 ∷ 0x00 ∷ 0x07 ∷ 0x01 ∷ 0x00 ∷ 0x00 ∷ 0x00 ∷ 0x00 ∷ 0x00 ∷ 0x80 ∷ 0x00 ∷ 0x00 ∷ 0x00 ∷ 0x00 ∷ 0x00 ∷ 0x00 ∷ 0x00 ∷ 0x00 ∷ []))
    ≡ import (Name (codes "fg")) 0x90 ∷ import (Ordinal 0x107) 0x98 ∷ []
eight_bytes = refl

-- a bit over the 31 of the RVA is set
bit_31 : standing (delay_tests (image 8 plain (0x5a ∷ 0x00 ∷ 0x00 ∷ 0x80 ∷ 0x00 ∷ 0x00 ∷ 0x00 ∷ 0x00 ∷ 0x00 ∷ 0x00 ∷ 0x00 ∷ 0x00 ∷ 0x00 ∷ 0x00 ∷ 0x00 ∷ 0x00 ∷ [])))
    ≡ found 165 0x44 ∷ []
bit_31 = refl

-- one over the 16 of the ordinal, in the second entry
bit_16 : standing (delay_tests (image 4 plain (0x5a ∷ 0x00 ∷ 0x00 ∷ 0x00 ∷ 0x07 ∷ 0x00 ∷ 0x01 ∷ 0x80 ∷ 0x00 ∷ 0x00 ∷ 0x00 ∷ 0x00 ∷ 0x00 ∷ 0x00 ∷ 0x00 ∷ 0x00 ∷ [])))
    ≡ found 165 0x48 ∷ []
bit_16 = refl

-- a descriptor with a finding has no imports
none_of_it : delay_imports_of (image 4 plain (0x5a ∷ 0x00 ∷ 0x00 ∷ 0x00 ∷ 0x07 ∷ 0x00 ∷ 0x01 ∷ 0x80 ∷ 0x00 ∷ 0x00 ∷ 0x00 ∷ 0x00 ∷ 0x00 ∷ 0x00 ∷ 0x00 ∷ 0x00 ∷ []))
    ≡ []
none_of_it = refl

-- no text is at 0x5f, and the second slot has two bytes in the image
slot_passes : standing (delay_tests (image 4 (descriptor 0x01 0x00 0x5f 0x9a 0x44) name_and_ordinal)) ≡ found 162 4 ∷ found 166 0x48 ∷ []
slot_passes = refl

-- the name table has two bytes in the image
entry_passes : standing (delay_tests (image 4 (descriptor 0x01 0x00 0x54 0x90 0x9e) name_and_ordinal)) ≡ found 163 0x9e ∷ []
entry_passes = refl

-- there is no name table
no_names : standing (delay_tests (image 4 (descriptor 0x01 0x00 0x54 0x90 0x00) name_and_ordinal)) ≡ found 163 0xa0 ∷ []
no_names = refl

-- all that is wrong with an entry: no string is two bytes after 0x70, bit 32 is set, and the slot passes the image
three_rules : standing (delay_tests (image 8 (descriptor 0x01 0x00 0x54 0x99 0x44) (0x70 ∷ 0x00 ∷ 0x00 ∷ 0x00 ∷ 0x01 ∷ 0x00 ∷ 0x00 ∷ 0x00 ∷ 0x00 ∷ 0x00 ∷ 0x00 ∷ 0x00 ∷ 0x00 ∷ 0x00 ∷ 0x00 ∷ 0x00 ∷ [])))
    ≡ found 164 0x44 ∷ found 165 0x44 ∷ found 166 0x44 ∷ []
three_rules = refl

-- 1,048,576 entries were read before it; one of 0 is none
one_too_many : standing (entry_tests (image 4 plain name_and_ordinal) (record { names = 0x44; addresses = 0x90; has_rvas = true }) 1048576 (entry_at (image 4 plain name_and_ordinal) (record { names = 0x44; addresses = 0x90; has_rvas = true }) 0))
    ≡ found 167 0x44 ∷ []
one_too_many = refl

just_enough : standing (entry_tests (image 4 plain name_and_ordinal) (record { names = 0x44; addresses = 0x90; has_rvas = true }) 1048576 (entry_at (image 4 plain name_and_ordinal) (record { names = 0x44; addresses = 0x90; has_rvas = true }) 2))
    ≡ []
just_enough = refl

-- the file holds two descriptors, and neither ends the table
no_end : standing (delay_tests (image_of 4 (start ++ (plain ++ plain)))) ≡ found 161 4 ∷ found 162 4 ∷ found 162 0x24 ∷ []
no_end = refl

-- a descriptor without slots ends the table too, and one of 31 bytes is none
before_it : map (λ (d : DelayDescriptor). d.rva) (descriptors_from 4 (plain ++ (descriptor 0x01 0x00 0x54 0x00 0x44 ++ plain)) 0) ≡ 4 ∷ []
before_it = refl

cut : map (λ (d : DelayDescriptor). d.rva) (descriptors_from 4 (plain ++ (plain ++ drop 1 plain)) 0) ≡ 4 ∷ 0x24 ∷ []
cut = refl
