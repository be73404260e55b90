-- Import tables by the definitions, as examples.
use Rattle.std.proofs.Common.{◌≡◌, ℕ, ◌-◌, ◌++◌, false, List, [], ◌∷◌, Option, Some, None, drop, get_or, refl}
use Rattle.std.specs.Prelude.{◌==◌, codes, replicate, if◌then◌else◌}
use Rattle.pe_view.specs.declared.fault.Place.TheVariants.{Rva}
use Rattle.pe_view.specs.Faults.{first_standing}
use Rattle.pe_view.specs.Text.{zero_ended}
use Rattle.pe_head.specs.declared.directory.Directory.{Directory}
use Rattle.pe_layout.specs.Image.{LaidOut}
use Rattle.pe_tables.specs.Key.{Ordinal, Name}
use Rattle.pe_tables.specs.Imports.{imports_of}
use Rattle.pe_tables.specs.ImportFaults.{import_tests, descriptors_tests, lookups_tests}

abbrev import_directory : ℕ → ℕ → Option Directory
import_directory rva k = if k == 1 then Some (record { rva = rva; size = 0x28 }) else None

-- an image of 0x1060 bytes with these at 0x1000, and its import directory at an RVA
abbrev image_at : ℕ → ℕ → List ℕ → LaidOut
image_at rva width bytes = record {
  number = 0;
  size = 0x1060;
  byte = λ rva. get_or bytes (rva - 0x1000) 0;
  raw_left = λ _. 0;
  text = λ rva. zero_ended (drop (rva - 0x1000) bytes);
  directory = import_directory rva;
  slot_width = width;
  image_base = 0x400000;
  is_stripped = false;
}

abbrev image : List ℕ → LaidOut
image bytes = image_at 0x1000 4 bytes

-- a descriptor: its lookup table is this far after 0x1000, then its time stamp; its name is at 0x1040, its slots at 0x1030
abbrev descriptor : ℕ → ℕ → List ℕ
descriptor lookup time_stamp =
    lookup ∷ 0x10 ∷ 0x00 ∷ 0x00 ∷ time_stamp ∷ 0x00 ∷ 0x00 ∷ 0x00 ∷ 0x00 ∷ 0x00 ∷ 0x00 ∷ 0x00
    ∷ 0x40 ∷ 0x10 ∷ 0x00 ∷ 0x00 ∷ 0x30 ∷ 0x10 ∷ 0x00 ∷ 0x00 ∷ []

-- the same without a lookup table
abbrev without_lookup : ℕ → List ℕ
without_lookup time_stamp = 0x00 ∷ 0x00 ∷ drop 2 (descriptor 0x00 time_stamp)

abbrev last : List ℕ
last = replicate 20 0x00

-- two entries of four bytes or one of eight: the name `f`, and the end
abbrev f : List ℕ
f = 0x38 ∷ 0x10 ∷ 0x00 ∷ 0x00 ∷ 0x00 ∷ 0x00 ∷ 0x00 ∷ 0x00 ∷ []

-- at 0x1038 a hint and `f`, at 0x1040 `A.DLL`
abbrev texts : List ℕ
texts = 0x00 ∷ 0x00 ∷ 0x66 ∷ 0x00 ∷ 0x00 ∷ 0x00 ∷ 0x00 ∷ 0x00 ∷ 0x41 ∷ 0x2e ∷ 0x44 ∷ 0x4c ∷ 0x4c ∷ 0x00 ∷ []

one_import : imports_of (image (descriptor 0x28 0 ++ (last ++ (f ++ (f ++ texts))))) ≡ record { module_name = codes "A.DLL"; key = Name (codes "f"); slot = 0x1030 } ∷ []
one_import = refl

no_fault : first_standing (import_tests (image (descriptor 0x28 0 ++ (last ++ (f ++ (f ++ texts)))))) ≡ None
unfolding descriptors_tests lookups_tests
no_fault = refl

-- the first 16 bits of the entry are the ordinal
by_ordinal : imports_of (image (descriptor 0x28 0 ++ (last ++ (0x05 ∷ 0x00 ∷ 0x01 ∷ 0x80 ∷ 0x00 ∷ 0x00 ∷ 0x00 ∷ 0x00 ∷ (f ++ texts)))))
    ≡ record { module_name = codes "A.DLL"; key = Ordinal 5; slot = 0x1030 } ∷ []
by_ordinal = refl

-- the address table is the lookup table
no_lookup_table : imports_of (image (without_lookup 0 ++ (last ++ (f ++ (f ++ texts))))) ≡ record { module_name = codes "A.DLL"; key = Name (codes "f"); slot = 0x1030 } ∷ []
no_lookup_table = refl

bound : first_standing (import_tests (image (without_lookup 1 ++ (last ++ (f ++ (f ++ texts)))))) ≡ Some (record { number = 32; image = 0; place = Rva 0x1000 })
unfolding descriptors_tests lookups_tests
bound = refl

slot_twice : first_standing (import_tests (image (descriptor 0x28 0 ++ (descriptor 0x28 0 ++ (f ++ (f ++ texts)))))) ≡ Some (record { number = 30; image = 0; place = Rva 0x1028 })
unfolding descriptors_tests lookups_tests
slot_twice = refl

-- one byte of the descriptor is past the image
descriptor_outside : first_standing (import_tests (image_at 0x104d 4 [])) ≡ Some (record { number = 24; image = 0; place = Rva 0x104d })
unfolding descriptors_tests lookups_tests
descriptor_outside = refl

no_module_name : first_standing (import_tests (image (descriptor 0x28 0 ++ (last ++ (f ++ f))))) ≡ Some (record { number = 25; image = 0; place = Rva 0x100c })
unfolding descriptors_tests lookups_tests
no_module_name = refl

entry_outside : first_standing (import_tests (image (descriptor 0x5d 0 ++ (last ++ (f ++ (f ++ texts)))))) ≡ Some (record { number = 26; image = 0; place = Rva 0x105d })
unfolding descriptors_tests lookups_tests
entry_outside = refl

-- in PE32+ the entry at 0x1030 ends the table
eight_bytes : imports_of (image_at 0x1000 8 (descriptor 0x28 0 ++ (last ++ (f ++ (replicate 8 0x00 ++ texts))))) ≡ record { module_name = codes "A.DLL"; key = Name (codes "f"); slot = 0x1030 } ∷ []
eight_bytes = refl

-- bit 31 is not the top bit there
bit_31 : first_standing (import_tests (image_at 0x1000 8 (descriptor 0x28 0 ++ (last ++ (0x38 ∷ 0x10 ∷ 0x00 ∷ 0x80 ∷ 0x00 ∷ 0x00 ∷ 0x00 ∷ 0x00 ∷ (replicate 8 0x00 ++ texts))))))
    ≡ Some (record { number = 28; image = 0; place = Rva 0x1028 })
unfolding descriptors_tests lookups_tests
bit_31 = refl

bit_63 : imports_of (image_at 0x1000 8 (descriptor 0x28 0 ++ (last ++ (0x05 ∷ 0x00 ∷ 0x01 ∷ 0x80 ∷ 0x00 ∷ 0x00 ∷ 0x00 ∷ 0x80 ∷ (replicate 8 0x00 ++ texts)))))
    ≡ record { module_name = codes "A.DLL"; key = Ordinal 5; slot = 0x1030 } ∷ []
bit_63 = refl

-- no string is at 0x80000001, and bit 32 is set too
name_before_bits : first_standing (import_tests (image_at 0x1000 8 (descriptor 0x28 0 ++ (last ++ (0xff ∷ 0xff ∷ 0xff ∷ 0x7f ∷ 0x01 ∷ 0x00 ∷ 0x00 ∷ 0x00 ∷ (replicate 8 0x00 ++ texts))))))
    ≡ Some (record { number = 27; image = 0; place = Rva 0x1028 })
unfolding descriptors_tests lookups_tests
name_before_bits = refl
