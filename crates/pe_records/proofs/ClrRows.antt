-- The CLR header by the definitions, as examples (ECMA-335, II.25.3.3).
use Rattle.std.proofs.Common.{◌≡◌, ℕ, ◌-◌, false, List, [], ◌∷◌, Some, None, get_or, length, map, take, refl}
use Rattle.std.specs.Prelude.{◌==◌, if◌then◌else◌}
use Rattle.std.specs.List.{range_with_len}
use Rattle.pe_view.specs.declared.fault.Fault.{Fault}
use Rattle.pe_view.specs.declared.fault.Place.TheVariants.{Rva}
use Rattle.pe_view.specs.Standing.{standing}
use Rattle.pe_layout.specs.Image.{LaidOut}
use Rattle.pe_records.specs.ClrHeader.{clr_fields, clr_tests}
use Rattle.pe_records.specs.Structure.{field_in}

-- the numbers 1 to 72
abbrev bytes : List ℕ
bytes = map (λ k. k) (range_with_len 1 72)

fields : map (field_in 8 bytes) clr_fields
    ≡ Some 0x4030201 ∷ Some 0x605 ∷ Some 0x807 ∷ Some 0xc0b0a09 ∷ Some 0x100f0e0d ∷ Some 0x14131211 ∷ Some 0x18171615
    ∷ Some 0x1c1b1a19 ∷ Some 0x201f1e1d ∷ Some 0x24232221 ∷ Some 0x28272625 ∷ Some 0x2c2b2a29 ∷ Some 0x302f2e2d
    ∷ Some 0x34333231 ∷ Some 0x38373635 ∷ Some 0x3c3b3a39 ∷ Some 0x403f3e3d ∷ Some 0x44434241 ∷ Some 0x48474645 ∷ []
fields = refl

-- an image of 0x3000 bytes with these at 0x2000, which is its CLR header
abbrev image : List ℕ → LaidOut
image held = record {
  number = 7;
  size = 0x3000;
  byte = λ rva. get_or held (rva - 0x2000) 0;
  raw_left = λ rva. length held - (rva - 0x2000);
  text = λ _. None;
  directory = λ k. if k == 14 then Some (record { rva = 0x2000; size = 0 }) else None;
  slot_width = 4;
  image_base = 0x10000000;
  is_stripped = false;
}

-- a header of so many bytes, with metadata of 0x10 bytes from 0x2f00 + low on
abbrev header : ℕ → ℕ → List ℕ
header size low = size ∷ 0 ∷ 0 ∷ 0 ∷ 2 ∷ 0 ∷ 5 ∷ 0 ∷ low ∷ 0x2f ∷ 0 ∷ 0 ∷ 0x10 ∷ 0 ∷ 0 ∷ 0 ∷ []

abbrev found : ℕ → Fault
found number = record { number = number; image = 7; place = Rva 0x2000 }

whole : standing (clr_tests (image (header 16 0xf0))) ≡ []
whole = refl

passes_run : standing (clr_tests (image (header 17 0xf0))) ≡ found 251 ∷ []
passes_run = refl

no_size : standing (clr_tests (image (take 3 (header 16 0xf0)))) ≡ found 251 ∷ []
no_size = refl

metadata_passes : standing (clr_tests (image (header 16 0xf1))) ≡ found 252 ∷ []
metadata_passes = refl

-- the size of the metadata is no part of a header of 15 bytes
cut : standing (clr_tests (image (header 15 0xf1))) ≡ []
cut = refl
