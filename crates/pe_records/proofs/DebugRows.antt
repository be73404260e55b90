-- The debug directory and CodeView records by the definitions, as examples ("PE Format", Debug Directory).
use Rattle.std.proofs.Common.{◌≡◌, ℕ, ◌-◌, false, List, [], ◌∷◌, ◌++◌, Some, None, get_or, length, take, refl}
use Rattle.std.specs.Prelude.{◌==◌, codes, if◌then◌else◌}
use Rattle.pe_view.specs.declared.fault.Fault.{Fault}
use Rattle.pe_view.specs.declared.fault.Place.TheVariants.{Rva}
use Rattle.pe_view.specs.Standing.{standing}
use Rattle.pe_head.specs.declared.directory.Directory.{Directory}
use Rattle.pe_layout.specs.Image.{LaidOut}
use Rattle.pe_records.specs.CodeView.{SevenZero, TwoZero, Other, code_view_of}
use Rattle.pe_records.specs.Debug.{data_of, debug_entry_at}
use Rattle.pe_records.specs.DebugTests.{entry_tests}
use Rattle.pe_records.specs.Records.{record_before, records_in, table_bytes}
use Rattle.pe_records.specs.TableTests.{table_tests}
use Rattle.pe_records.specs.declared.debug.DebugEntry.{DebugEntry}

-- an image of 0x3000 bytes with these at 0x2000, which the file holds in one run
abbrev image : List ℕ → LaidOut
image bytes = record {
  number = 7;
  size = 0x3000;
  byte = λ rva. get_or bytes (rva - 0x2000) 0;
  raw_left = λ rva. length bytes - (rva - 0x2000);
  text = λ _. None;
  directory = λ k. if k == 6 then Some (record { rva = 0x2000; size = 56 }) else None;
  slot_width = 4;
  image_base = 0x10000000;
  is_stripped = false;
}

abbrev directory : ℕ → Directory
directory size = record { rva = 0x2000; size = size }

-- two entries, and 4 bytes more
abbrev bytes : List ℕ
bytes =
    0x01 ∷ 0x02 ∷ 0x03 ∷ 0x04 ∷ 0x05 ∷ 0x06 ∷ 0x07 ∷ 0x08 ∷ 0x09 ∷ 0x0a ∷ 0x0b ∷ 0x0c ∷ 0x0d ∷ 0x0e
    ∷ 0x0f ∷ 0x10 ∷ 0x11 ∷ 0x12 ∷ 0x13 ∷ 0x14 ∷ 0x15 ∷ 0x16 ∷ 0x17 ∷ 0x18 ∷ 0x19 ∷ 0x1a ∷ 0x1b ∷ 0x1c
    ∷ 0x41 ∷ 0x42 ∷ 0x43 ∷ 0x44 ∷ 0x45 ∷ 0x46 ∷ 0x47 ∷ 0x48 ∷ 0x49 ∷ 0x4a ∷ 0x4b ∷ 0x4c ∷ 0x4d ∷ 0x4e
    ∷ 0x4f ∷ 0x50 ∷ 0x51 ∷ 0x52 ∷ 0x53 ∷ 0x54 ∷ 0x55 ∷ 0x56 ∷ 0x57 ∷ 0x58 ∷ 0x59 ∷ 0x5a ∷ 0x5b ∷ 0x5c
    ∷ 0x61 ∷ 0x62 ∷ 0x63 ∷ 0x64 ∷ []

abbrev first : DebugEntry
first = record {
  characteristics = 0x04030201;
  time_date_stamp = 0x08070605;
  major_version = 0x0a09;
  minor_version = 0x0c0b;
  kind = 0x100f0e0d;
  size_of_data = 0x14131211;
  address_of_raw_data = 0x18171615;
  pointer_to_raw_data = 0x1c1b1a19;
}

abbrev second : DebugEntry
second = record {
  characteristics = 0x44434241;
  time_date_stamp = 0x48474645;
  major_version = 0x4a49;
  minor_version = 0x4c4b;
  kind = 0x504f4e4d;
  size_of_data = 0x54535251;
  address_of_raw_data = 0x58575655;
  pointer_to_raw_data = 0x5c5b5a59;
}

two_of_56_bytes : records_in debug_entry_at 28 (table_bytes (image bytes) (Some (directory 56))) ≡ first ∷ second ∷ []
two_of_56_bytes = refl

one_of_55_bytes : records_in debug_entry_at 28 (table_bytes (image bytes) (Some (directory 55))) ≡ first ∷ []
one_of_55_bytes = refl

-- the file holds 60 bytes, whatever the Size is
two_of_any_size : records_in debug_entry_at 28 (table_bytes (image bytes) (Some (directory 0x7fffffff))) ≡ first ∷ second ∷ []
two_of_any_size = refl

none_without_directory : records_in debug_entry_at 28 (table_bytes (image bytes) None) ≡ []
none_without_directory = refl

before_first : record_before debug_entry_at 28 bytes 0 ≡ None
before_first = refl

before_second : record_before debug_entry_at 28 bytes 1 ≡ Some first
before_second = refl

-- ---- CodeView records
abbrev pdb_70 : List ℕ
pdb_70 =
    0x52 ∷ 0x53 ∷ 0x44 ∷ 0x53 ∷ 0x01 ∷ 0x02 ∷ 0x03 ∷ 0x04 ∷ 0x05 ∷ 0x06 ∷ 0x07 ∷ 0x08 ∷ 0x09 ∷ 0x0a
    ∷ 0x0b ∷ 0x0c ∷ 0x0d ∷ 0x0e ∷ 0x0f ∷ 0x10 ∷ 0x11 ∷ 0x12 ∷ 0x13 ∷ 0x14 ∷ 0x61 ∷ 0x2e ∷ 0x70 ∷ 0x64
    ∷ 0x62 ∷ []

abbrev guid : List ℕ
guid = 0x01 ∷ 0x02 ∷ 0x03 ∷ 0x04 ∷ 0x05 ∷ 0x06 ∷ 0x07 ∷ 0x08 ∷ 0x09 ∷ 0x0a ∷ 0x0b ∷ 0x0c ∷ 0x0d ∷ 0x0e ∷ 0x0f ∷ 0x10 ∷ []

rsds : code_view_of (pdb_70 ++ 0 ∷ []) ≡ SevenZero (record { guid = guid; age = 0x14131211; path = Some (codes "a.pdb") })
rsds = refl

rsds_without_end : code_view_of pdb_70 ≡ SevenZero (record { guid = guid; age = 0x14131211; path = None })
rsds_without_end = refl

rsds_too_short : code_view_of (take 23 pdb_70) ≡ Other
rsds_too_short = refl

abbrev pdb_20 : List ℕ
pdb_20 =
    0x4e ∷ 0x42 ∷ 0x31 ∷ 0x30 ∷ 0x01 ∷ 0x02 ∷ 0x03 ∷ 0x04 ∷ 0x05 ∷ 0x06 ∷ 0x07 ∷ 0x08 ∷ 0x09 ∷ 0x0a
    ∷ 0x0b ∷ 0x0c ∷ 0x62 ∷ 0x2e ∷ 0x70 ∷ 0x64 ∷ 0x62 ∷ []

nb10 : code_view_of (pdb_20 ++ 0 ∷ 0x63 ∷ []) ≡ TwoZero (record { offset = 0x04030201; time_date_stamp = 0x08070605; age = 0x0c0b0a09; path = Some (codes "b.pdb") })
nb10 = refl

nb10_without_end : code_view_of pdb_20 ≡ TwoZero (record { offset = 0x04030201; time_date_stamp = 0x08070605; age = 0x0c0b0a09; path = None })
nb10_without_end = refl

nb10_too_short : code_view_of (take 15 pdb_20) ≡ Other
nb10_too_short = refl

-- ---- findings: an entry whose data, a CodeView record, is at the end of the file, and at the end of the image
abbrev file : List ℕ
file = 0xee ∷ 0xee ∷ pdb_70 ++ 0 ∷ []

abbrev entry : ℕ → ℕ → ℕ → DebugEntry
entry size rva pointer = record {
  characteristics = 0;
  time_date_stamp = 0;
  major_version = 0;
  minor_version = 0;
  kind = 2;
  size_of_data = size;
  address_of_raw_data = rva;
  pointer_to_raw_data = pointer;
}

data_at_pointer : data_of file (entry 3 0x2fe2 3) ≡ Some (0x53 ∷ 0x44 ∷ 0x53 ∷ [])
data_at_pointer = refl

no_data : data_of file (entry 3 0x2fe2 0) ≡ None
no_data = refl

abbrev found_at : ℕ → ℕ → Fault
found_at number rva = record { number = number; image = 7; place = Rva rva }

abbrev found : ℕ → Fault
found number = found_at number 0x201c

nothing : standing (entry_tests (image bytes) file None (entry 30 0x2fe2 2) 0x201c) ≡ []
nothing = refl

passes_file : standing (entry_tests (image bytes) file None (entry 30 0 3) 0x201c) ≡ found 103 ∷ []
passes_file = refl

passes_image : standing (entry_tests (image bytes) file None (entry 30 0x2fe3 2) 0x201c) ≡ found 104 ∷ []
passes_image = refl

no_end : standing (entry_tests (image bytes) file None (entry 29 0x2fe2 2) 0x201c) ≡ found 105 ∷ []
no_end = refl

-- its path is not searched in an entry after the first 32
early : standing (entry_tests (image bytes) file None (entry 29 0x2fe2 2) 0x2364) ≡ found_at 105 0x2364 ∷ []
early = refl

not_early : standing (entry_tests (image bytes) file None (entry 29 0x2fe2 2) 0x2380) ≡ []
not_early = refl

only_code_view : standing (entry_tests (image bytes) file None (record (entry 29 0x2fe2 2) { kind = 3 }) 0x201c) ≡ []
only_code_view = refl

-- an entry that points nowhere
points_nowhere : standing (entry_tests (image bytes) file None (entry 0xffffffff 0 0) 0x201c) ≡ []
points_nowhere = refl

-- ---- findings of the table: 56 bytes are two entries, the file holds 60, and each of these entries passes the file and the image
of_entries : standing (table_tests debug_entry_at entry_tests 28 101 (image bytes) file (Some (directory 56)))
    ≡ found_at 103 0x2000 ∷ found_at 104 0x2000 ∷ found_at 103 0x201c ∷ found_at 104 0x201c ∷ []
of_entries = refl

cut : standing (table_tests debug_entry_at entry_tests 28 101 (image bytes) file (Some (directory 27))) ≡ found_at 102 0x2000 ∷ []
cut = refl

past_run : standing (table_tests debug_entry_at entry_tests 28 101 (image (take 27 bytes)) file (Some (directory 28))) ≡ found_at 101 0x2000 ∷ []
past_run = refl

absent : standing (table_tests debug_entry_at entry_tests 28 101 (image bytes) file None) ≡ []
absent = refl
