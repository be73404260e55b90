-- The bound import table by the definitions, as examples ("PE Format", Bound Import Table).
use Rattle.std.proofs.Common.{◌≡◌, ℕ, ◌-◌, false, List, [], ◌∷◌, ◌++◌, Some, None, get_or, length, refl}
use Rattle.std.specs.Prelude.{◌==◌, if◌then◌else◌}
use Rattle.pe_view.specs.declared.fault.Fault.{Fault}
use Rattle.pe_view.specs.declared.fault.Place.TheVariants.{Rva}
use Rattle.pe_view.specs.Standing.{standing}
use Rattle.pe_layout.specs.Image.{LaidOut}
use Rattle.pe_records.specs.BoundImports.{bound_imports_in}
use Rattle.pe_records.specs.BoundImportTests.{bound_tests}
use Rattle.pe_records.specs.declared.bound_imports.BoundImport.{BoundImport}

abbrev bound : ℕ → ℕ → ℕ → BoundImport
bound stamp offset count = record { time_date_stamp = stamp; offset_module_name = offset; number_of_module_forwarder_refs = count }

abbrev bytes : List ℕ
bytes =
    0x01 ∷ 0x02 ∷ 0x03 ∷ 0x04 ∷ 0x05 ∷ 0x06 ∷ 0x07 ∷ 0x08
    ∷ 0x11 ∷ 0x12 ∷ 0x13 ∷ 0x14 ∷ 0x15 ∷ 0x16 ∷ 0x17 ∷ 0x18 ∷ []

abbrev zeros : List ℕ
zeros = 0 ∷ 0 ∷ 0 ∷ 0 ∷ 0 ∷ 0 ∷ 0 ∷ 0 ∷ []

before_zeros : bound_imports_in (bytes ++ zeros ++ bytes) ≡ bound 0x04030201 0x0605 0x0807 ∷ bound 0x14131211 0x1615 0x1817 ∷ []
before_zeros = refl

-- a record with one byte that is not 0 ends nothing
almost_zeros : bound_imports_in (0 ∷ 0 ∷ 0 ∷ 0 ∷ 0 ∷ 0 ∷ 0 ∷ 1 ∷ zeros) ≡ bound 0 0 0x0100 ∷ []
almost_zeros = refl

-- an image of 0x3000 bytes with these at 0x2000, which is its bound import table
abbrev image : List ℕ → LaidOut
image held = record {
  number = 7;
  size = 0x3000;
  byte = λ rva. get_or held (rva - 0x2000) 0;
  raw_left = λ rva. length held - (rva - 0x2000);
  text = λ _. None;
  directory = λ k. if k == 11 then Some (record { rva = 0x2000; size = 16 }) else None;
  slot_width = 4;
  image_base = 0x10000000;
  is_stripped = false;
}

abbrev found : ℕ → ℕ → Fault
found number rva = record { number = number; image = 7; place = Rva rva }

-- the name is in the last byte of the image
nothing : standing (bound_tests (image (1 ∷ 0 ∷ 0 ∷ 0 ∷ 0xff ∷ 0x0f ∷ 0 ∷ 0 ∷ zeros))) ≡ []
nothing = refl

name_strays : standing (bound_tests (image (1 ∷ 0 ∷ 0 ∷ 0 ∷ 0x00 ∷ 0x10 ∷ 0 ∷ 0 ∷ zeros))) ≡ found 152 0x2000 ∷ []
name_strays = refl

-- the directory has two records, and neither is of zeros
no_end : standing (bound_tests (image (bytes ++ zeros))) ≡ found 151 0x2000 ∷ found 152 0x2008 ∷ []
no_end = refl
