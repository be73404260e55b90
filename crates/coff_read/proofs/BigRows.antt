-- Rows of the definitions of big objects, by bytes that `x86_64-w64-mingw32-as -mbig-obj` and `llvm-mc` wrote; the values are those that
-- llvm-readobj and objdump print.
use Rattle.std.proofs.Common.{◌≡◌, ℕ, ◌++◌, codes, refl, true, false, List, [], ◌∷◌, Some, None}
use Rattle.std.specs.Prelude.{replicate, take, drop}
use Rattle.pe_view.specs.Faults.{first_standing}
use Rattle.pe_view.specs.declared.fault.Place.TheVariants.{File}
use Rattle.coff_read.specs.Auxiliary.{Section}
use Rattle.coff_read.specs.BigAuxiliary.{big_aux_record}
use Rattle.coff_read.specs.Field.{field}
use Rattle.coff_read.specs.FormFaults.{header_tests, record_tests, object_tests}
use Rattle.coff_read.specs.FormReading.{symbol_at, object_of}
use Rattle.coff_read.specs.FormRecords.{is_bad_symbol}
use Rattle.coff_read.specs.Forms.{Big}
use Rattle.coff_read.specs.Records.{Bytes, Absent, Symbol, Object}
use Rattle.coff_read.specs.declared.relocation.Relocation.{Relocation}
use Rattle.coff_read.specs.declared.symbol.SymbolSection.TheVariants as belongs

-- the header of an object of three sections
abbrev header : List ℕ
header =
    0 ∷ 0 ∷ 0xff ∷ 0xff ∷ 2 ∷ 0 ∷ 0x64 ∷ 0x86 ∷ 0 ∷ 0 ∷ 0 ∷ 0 ∷ 0xc7 ∷ 0xa1 ∷ 0xba ∷ 0xd1 ∷
    0xee ∷ 0xba ∷ 0xa9 ∷ 0x4b ∷ 0xaf ∷ 0x20 ∷ 0xfa ∷ 0xf6 ∷ 0x6a ∷ 0xa4 ∷ 0xdc ∷ 0xb8 ∷ 0 ∷ 0 ∷ 0 ∷ 0 ∷
    0 ∷ 0 ∷ 0 ∷ 0 ∷ 0 ∷ 0 ∷ 0 ∷ 0 ∷ 0 ∷ 0 ∷ 0 ∷ 0 ∷ 3 ∷ 0 ∷ 0 ∷ 0 ∷
    0xda ∷ 0 ∷ 0 ∷ 0 ∷ 0xa ∷ 0 ∷ 0 ∷ 0 ∷ []

-- their headers
abbrev sections : List ℕ
sections =
    0x2e ∷ 0x74 ∷ 0x65 ∷ 0x78 ∷ 0x74 ∷ 0 ∷ 0 ∷ 0 ∷ 0 ∷ 0 ∷ 0 ∷ 0 ∷ 0 ∷ 0 ∷ 0 ∷ 0 ∷
    0x10 ∷ 0 ∷ 0 ∷ 0 ∷ 0xb0 ∷ 0 ∷ 0 ∷ 0 ∷ 0xd0 ∷ 0 ∷ 0 ∷ 0 ∷ 0 ∷ 0 ∷ 0 ∷ 0 ∷
    1 ∷ 0 ∷ 0 ∷ 0 ∷ 0x20 ∷ 0 ∷ 0x50 ∷ 0x60 ∷ 0x2e ∷ 0x64 ∷ 0x61 ∷ 0x74 ∷ 0x61 ∷ 0 ∷ 0 ∷ 0 ∷
    0 ∷ 0 ∷ 0 ∷ 0 ∷ 0 ∷ 0 ∷ 0 ∷ 0 ∷ 0x10 ∷ 0 ∷ 0 ∷ 0 ∷ 0xc0 ∷ 0 ∷ 0 ∷ 0 ∷
    0 ∷ 0 ∷ 0 ∷ 0 ∷ 0 ∷ 0 ∷ 0 ∷ 0 ∷ 0 ∷ 0 ∷ 0 ∷ 0 ∷ 0x40 ∷ 0 ∷ 0x50 ∷ 0xc0 ∷
    0x2e ∷ 0x62 ∷ 0x73 ∷ 0x73 ∷ 0 ∷ 0 ∷ 0 ∷ 0 ∷ 0 ∷ 0 ∷ 0 ∷ 0 ∷ 0 ∷ 0 ∷ 0 ∷ 0 ∷
    0 ∷ 0 ∷ 0 ∷ 0 ∷ 0 ∷ 0 ∷ 0 ∷ 0 ∷ 0 ∷ 0 ∷ 0 ∷ 0 ∷ 0 ∷ 0 ∷ 0 ∷ 0 ∷
    0 ∷ 0 ∷ 0 ∷ 0 ∷ 0x80 ∷ 0 ∷ 0x50 ∷ 0xc0 ∷ []

-- their bytes, and the relocation of the first
abbrev bodies : List ℕ
bodies =
    0xe8 ∷ 0 ∷ 0 ∷ 0 ∷ 0 ∷ 0x90 ∷ 0x90 ∷ 0x90 ∷ 0x90 ∷ 0x90 ∷ 0x90 ∷ 0x90 ∷ 0x90 ∷ 0x90 ∷ 0x90 ∷ 0x90 ∷
    7 ∷ 0 ∷ 0 ∷ 0 ∷ 0 ∷ 0 ∷ 0 ∷ 0 ∷ 0 ∷ 0 ∷ 0 ∷ 0 ∷ 0 ∷ 0 ∷ 0 ∷ 0 ∷
    1 ∷ 0 ∷ 0 ∷ 0 ∷ 9 ∷ 0 ∷ 0 ∷ 0 ∷ 4 ∷ 0 ∷ []

-- ten records, and the size of a string table without strings
abbrev symbols : List ℕ
symbols =
    0x2e ∷ 0x66 ∷ 0x69 ∷ 0x6c ∷ 0x65 ∷ 0 ∷ 0 ∷ 0 ∷ 0 ∷ 0 ∷ 0 ∷ 0 ∷ 0xfe ∷ 0xff ∷ 0xff ∷ 0xff ∷
    0 ∷ 0 ∷ 0x67 ∷ 1 ∷ 0x66 ∷ 0x61 ∷ 0x6b ∷ 0x65 ∷ 0 ∷ 0 ∷ 0 ∷ 0 ∷ 0 ∷ 0 ∷ 0 ∷ 0 ∷
    0 ∷ 0 ∷ 0 ∷ 0 ∷ 0 ∷ 0 ∷ 0 ∷ 0 ∷ 0x2e ∷ 0x74 ∷ 0x65 ∷ 0x78 ∷ 0x74 ∷ 0 ∷ 0 ∷ 0 ∷
    0 ∷ 0 ∷ 0 ∷ 0 ∷ 1 ∷ 0 ∷ 0 ∷ 0 ∷ 0 ∷ 0 ∷ 3 ∷ 1 ∷ 5 ∷ 0 ∷ 0 ∷ 0 ∷
    1 ∷ 0 ∷ 0 ∷ 0 ∷ 0 ∷ 0 ∷ 0 ∷ 0 ∷ 0 ∷ 0 ∷ 0 ∷ 0 ∷ 0 ∷ 0 ∷ 3 ∷ 1 ∷
    0x2e ∷ 0x64 ∷ 0x61 ∷ 0x74 ∷ 0x61 ∷ 0 ∷ 0 ∷ 0 ∷ 0 ∷ 0 ∷ 0 ∷ 0 ∷ 2 ∷ 0 ∷ 0 ∷ 0 ∷
    0 ∷ 0 ∷ 3 ∷ 1 ∷ 4 ∷ 0 ∷ 0 ∷ 0 ∷ 0 ∷ 0 ∷ 0 ∷ 0 ∷ 0 ∷ 0 ∷ 0 ∷ 0 ∷
    0 ∷ 0 ∷ 0 ∷ 0 ∷ 0 ∷ 0 ∷ 3 ∷ 1 ∷ 0x2e ∷ 0x62 ∷ 0x73 ∷ 0x73 ∷ 0 ∷ 0 ∷ 0 ∷ 0 ∷
    0 ∷ 0 ∷ 0 ∷ 0 ∷ 3 ∷ 0 ∷ 0 ∷ 0 ∷ 0 ∷ 0 ∷ 3 ∷ 1 ∷ 0 ∷ 0 ∷ 0 ∷ 0 ∷
    0 ∷ 0 ∷ 0 ∷ 0 ∷ 0 ∷ 0 ∷ 0 ∷ 0 ∷ 0 ∷ 0 ∷ 0 ∷ 0 ∷ 0 ∷ 0 ∷ 3 ∷ 1 ∷
    0x66 ∷ 0 ∷ 0 ∷ 0 ∷ 0 ∷ 0 ∷ 0 ∷ 0 ∷ 0 ∷ 0 ∷ 0 ∷ 0 ∷ 1 ∷ 0 ∷ 0 ∷ 0 ∷
    0 ∷ 0 ∷ 2 ∷ 0 ∷ 0x67 ∷ 0 ∷ 0 ∷ 0 ∷ 0 ∷ 0 ∷ 0 ∷ 0 ∷ 0 ∷ 0 ∷ 0 ∷ 0 ∷
    0 ∷ 0 ∷ 0 ∷ 0 ∷ 0 ∷ 0 ∷ 2 ∷ 0 ∷ 4 ∷ 0 ∷ 0 ∷ 0 ∷ []

abbrev file : List ℕ
file = header ++ sections ++ bodies ++ symbols

-- of an auxiliary record of a section the assembler sets the last two bytes too
abbrev section_record : ℕ → ℕ → List ℕ
section_record len relocations = len ∷ 0 ∷ 0 ∷ 0 ∷ relocations ∷ replicate 13 0 ++ 3 ∷ 1 ∷ []

abbrev object : Object
object = record {
  machine = 0x8664;
  time_stamp = 0;
  characteristics = 0;
  optional = [];
  sections =
      record {
        name = codes ".text";
        virtual_size = 0;
        virtual_address = 0;
        raw = Bytes (0xe8 ∷ 0 ∷ 0 ∷ 0 ∷ 0 ∷ replicate 11 0x90);
        flags = 0x60500020;
        relocations = record { address = 1; symbol = 9; kind = 4 } ∷ [];
      }
      ∷ record { name = codes ".data"; virtual_size = 0; virtual_address = 0; raw = Bytes (7 ∷ replicate 15 0); flags = 0xc0500040; relocations = [] }
      ∷ record { name = codes ".bss"; virtual_size = 0; virtual_address = 0; raw = Absent 0; flags = 0xc0500080; relocations = [] }
      ∷ [];
  symbols =
      record { name = codes ".file"; value = 0; section = belongs.Debug; kind = 0; class = 103; aux = codes "fake" ++ replicate 16 0 }
      ∷ record { name = codes ".text"; value = 0; section = belongs.Section 1; kind = 0; class = 3; aux = section_record 5 1 }
      ∷ record { name = codes ".data"; value = 0; section = belongs.Section 2; kind = 0; class = 3; aux = section_record 4 0 }
      ∷ record { name = codes ".bss"; value = 0; section = belongs.Section 3; kind = 0; class = 3; aux = section_record 0 0 }
      ∷ record { name = codes "f"; value = 0; section = belongs.Section 1; kind = 0; class = 2; aux = [] }
      ∷ record { name = codes "g"; value = 0; section = belongs.Undefined; kind = 0; class = 2; aux = [] }
      ∷ [];
}

row_object : object_of Big file ≡ object
unfolding field
row_object = refl

row_accepted : first_standing (object_tests Big file) ≡ None
unfolding field object_tests record_tests
row_accepted = refl

-- headers that are not those of big objects, of 56 bytes
abbrev of_version : ℕ → List ℕ
of_version version = take 4 header ++ version ∷ drop 5 header

row_version_1 : first_standing (header_tests Big (of_version 1)) ≡ Some (record { number = 62; image = 0; place = File 4 })
unfolding field
row_version_1 = refl

-- an import object has version 0
row_version_0 : first_standing (header_tests Big (of_version 0)) ≡ Some (record { number = 62; image = 0; place = File 4 })
unfolding field
row_version_0 = refl

row_class : first_standing (header_tests Big (take 27 header ++ 0xb9 ∷ drop 28 header)) ≡ Some (record { number = 62; image = 0; place = File 12 })
unfolding field
row_class = refl

row_plain : first_standing (header_tests Big (0x64 ∷ 0x86 ∷ 3 ∷ 0 ∷ replicate 52 0)) ≡ Some (record { number = 62; image = 0; place = File 0 })
unfolding field
row_plain = refl

row_short : first_standing (header_tests Big (take 55 header)) ≡ Some (record { number = 61; image = 0; place = File 55 })
unfolding field
row_short = refl

-- 2^32 - 1 sections in 100 bytes
row_sections : first_standing (header_tests Big (take 44 header ++ replicate 4 0xff ++ replicate 52 0)) ≡ Some (record { number = 63; image = 0; place = File 44 })
unfolding field
row_sections = refl

-- The records of an associative section of an object of 65,605 sections, that of its section and of a symbol without one. The record
-- that is associated names section 65,604 by two halves.
abbrev associative : List ℕ
associative =
    0 ∷ 0 ∷ 0 ∷ 0 ∷ 0x1d ∷ 0 ∷ 0 ∷ 0 ∷ 0 ∷ 0 ∷ 0 ∷ 0 ∷ 0x45 ∷ 0 ∷ 1 ∷ 0 ∷ 0 ∷ 0 ∷ 3 ∷ 1 ∷
    4 ∷ 0 ∷ 0 ∷ 0 ∷ 0 ∷ 0 ∷ 0 ∷ 0 ∷ 0xb9 ∷ 0x38 ∷ 0xd7 ∷ 0x9d ∷ 0x44 ∷ 0 ∷ 5 ∷ 0 ∷ 1 ∷ 0 ∷ 0 ∷ 0 ∷ []

abbrev associative_symbol : Symbol
associative_symbol = record { name = []; value = 0; section = belongs.Section 65605; kind = 0; class = 3; aux = drop 20 associative }

row_associative : symbol_at Big associative 0 ≡ associative_symbol
unfolding field
row_associative = refl

row_associated : big_aux_record associative_symbol 0 ≡ Some (Section 4 0 0 0x9dd738b9 65604 5)
unfolding field
row_associated = refl

row_no_more : big_aux_record associative_symbol 1 ≡ None
row_no_more = refl

row_defined : symbol_at Big (codes "zz" ++ replicate 10 0 ++ 0x44 ∷ 0 ∷ 1 ∷ 0 ∷ 0 ∷ 0 ∷ 2 ∷ 0 ∷ []) 0
    ≡ record { name = codes "zz"; value = 0; section = belongs.Section 65604; kind = 0; class = 2; aux = [] }
unfolding field
row_defined = refl

row_absolute : symbol_at Big (codes "weakly.." ++ replicate 4 0 ++ replicate 4 0xff ++ 0 ∷ 0 ∷ 2 ∷ 0 ∷ []) 0
    ≡ record { name = codes "weakly.."; value = 0; section = belongs.Absolute; kind = 0; class = 2; aux = [] }
unfolding field
row_absolute = refl

-- each field of a record by a byte of its own; the section's number is past 2^31
row_fields : symbol_at Big (codes "abcdefgh" ++ 1 ∷ 2 ∷ 3 ∷ 4 ∷ 5 ∷ 6 ∷ 7 ∷ 0x88 ∷ 9 ∷ 10 ∷ 11 ∷ 0 ∷ []) 0
    ≡ record { name = codes "abcdefgh"; value = 0x04030201; section = belongs.Section 0x88070605; kind = 0x0a09; class = 11; aux = [] }
unfolding field
row_fields = refl

-- the last number of a section, and those of none
row_last : is_bad_symbol Big 0xffff_ffff (record associative_symbol { section = belongs.Section 0xffff_fffd }) ≡ false
row_last = refl

row_reserved : is_bad_symbol Big 0xffff_ffff (record associative_symbol { section = belongs.Section 0xffff_fffe }) ≡ true
row_reserved = refl
