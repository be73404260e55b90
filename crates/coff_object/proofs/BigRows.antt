-- Rows of the written form of big objects. The bytes are those that `x86_64-w64-mingw32-as -mbig-obj` wrote of the same object, but for
-- the order of bodies and relocations.
use Rattle.std.proofs.Common.{◌≡◌, ℕ, ◌++◌, false, true, codes, refl, List, [], ◌∷◌, Some, None}
use Rattle.std.specs.Prelude.{replicate, take, drop}
use Rattle.pe_view.specs.Faults.{first_standing}
use Rattle.pe_view.specs.declared.fault.Place.TheVariants.{Item}
use Rattle.coff_read.specs.Field.{field}
use Rattle.coff_read.specs.Forms.{Plain, Big}
use Rattle.coff_read.specs.Records.{Bytes, Absent, Object}
use Rattle.coff_read.specs.declared.symbol.SymbolSection.TheVariants as belongs
use Rattle.pe_numbers.specs.Numbers.{number_bytes}
use Rattle.coff_object.specs.FormWriteFaults.{write_tests}
use Rattle.coff_object.specs.FormWritten.{canon}
use Rattle.coff_object.specs.NeededForm.{needs_big_form}
use Rattle.coff_object.specs.Written.{strings_of}

-- the header of an object of three sections
abbrev header : List ℕ
header =
    0 ∷ 0 ∷ 0xff ∷ 0xff ∷ 2 ∷ 0 ∷ 0x64 ∷ 0x86 ∷ 0 ∷ 0 ∷ 0 ∷ 0 ∷ 0xc7 ∷ 0xa1 ∷ 0xba ∷ 0xd1 ∷
    0xee ∷ 0xba ∷ 0xa9 ∷ 0x4b ∷ 0xaf ∷ 0x20 ∷ 0xfa ∷ 0xf6 ∷ 0x6a ∷ 0xa4 ∷ 0xdc ∷ 0xb8 ∷ 0 ∷ 0 ∷ 0 ∷ 0 ∷
    0 ∷ 0 ∷ 0 ∷ 0 ∷ 0 ∷ 0 ∷ 0 ∷ 0 ∷ 0 ∷ 0 ∷ 0 ∷ 0 ∷ 3 ∷ 0 ∷ 0 ∷ 0 ∷
    0xda ∷ 0 ∷ 0 ∷ 0 ∷ 0xa ∷ 0 ∷ 0 ∷ 0 ∷ []

-- ten records, and the size of a string table without strings
abbrev symbols : List ℕ
symbols =
    0x2e ∷ 0x66 ∷ 0x69 ∷ 0x6c ∷ 0x65 ∷ 0 ∷ 0 ∷ 0 ∷ 0 ∷ 0 ∷ 0 ∷ 0 ∷ 0xfe ∷ 0xff ∷ 0xff ∷ 0xff ∷
    0 ∷ 0 ∷ 0x67 ∷ 1 ∷ 0x66 ∷ 0x61 ∷ 0x6b ∷ 0x65 ∷ 0 ∷ 0 ∷ 0 ∷ 0 ∷ 0 ∷ 0 ∷ 0 ∷ 0 ∷
    0 ∷ 0 ∷ 0 ∷ 0 ∷ 0 ∷ 0 ∷ 0 ∷ 0 ∷ 0x2e ∷ 0x74 ∷ 0x65 ∷ 0x78 ∷ 0x74 ∷ 0 ∷ 0 ∷ 0 ∷
    0 ∷ 0 ∷ 0 ∷ 0 ∷ 1 ∷ 0 ∷ 0 ∷ 0 ∷ 0 ∷ 0 ∷ 3 ∷ 1 ∷ 5 ∷ 0 ∷ 0 ∷ 0 ∷
    1 ∷ 0 ∷ 0 ∷ 0 ∷ 0 ∷ 0 ∷ 0 ∷ 0 ∷ 0 ∷ 0 ∷ 0 ∷ 0 ∷ 0 ∷ 0 ∷ 3 ∷ 1 ∷
    0x2e ∷ 0x64 ∷ 0x61 ∷ 0x74 ∷ 0x61 ∷ 0 ∷ 0 ∷ 0 ∷ 0 ∷ 0 ∷ 0 ∷ 0 ∷ 2 ∷ 0 ∷ 0 ∷ 0 ∷
    0 ∷ 0 ∷ 3 ∷ 1 ∷ 4 ∷ 0 ∷ 0 ∷ 0 ∷ 0 ∷ 0 ∷ 0 ∷ 0 ∷ 0 ∷ 0 ∷ 0 ∷ 0 ∷
    0 ∷ 0 ∷ 0 ∷ 0 ∷ 0 ∷ 0 ∷ 3 ∷ 1 ∷ 0x2e ∷ 0x62 ∷ 0x73 ∷ 0x73 ∷ 0 ∷ 0 ∷ 0 ∷ 0 ∷
    0 ∷ 0 ∷ 0 ∷ 0 ∷ 3 ∷ 0 ∷ 0 ∷ 0 ∷ 0 ∷ 0 ∷ 3 ∷ 1 ∷ 0 ∷ 0 ∷ 0 ∷ 0 ∷
    0 ∷ 0 ∷ 0 ∷ 0 ∷ 0 ∷ 0 ∷ 0 ∷ 0 ∷ 0 ∷ 0 ∷ 0 ∷ 0 ∷ 0 ∷ 0 ∷ 3 ∷ 1 ∷
    0x66 ∷ 0 ∷ 0 ∷ 0 ∷ 0 ∷ 0 ∷ 0 ∷ 0 ∷ 0 ∷ 0 ∷ 0 ∷ 0 ∷ 1 ∷ 0 ∷ 0 ∷ 0 ∷
    0 ∷ 0 ∷ 2 ∷ 0 ∷ 0x67 ∷ 0 ∷ 0 ∷ 0 ∷ 0 ∷ 0 ∷ 0 ∷ 0 ∷ 0 ∷ 0 ∷ 0 ∷ 0 ∷
    0 ∷ 0 ∷ 0 ∷ 0 ∷ 0 ∷ 0 ∷ 2 ∷ 0 ∷ 4 ∷ 0 ∷ 0 ∷ 0 ∷ []

-- of an auxiliary record of a section the assembler sets the last two bytes too
abbrev section_record : ℕ → ℕ → List ℕ
section_record len relocations = len ∷ 0 ∷ 0 ∷ 0 ∷ relocations ∷ replicate 13 0 ++ 3 ∷ 1 ∷ []

abbrev object : Object
object = record {
  machine = 0x8664;
  time_stamp = 0;
  characteristics = 0;
  optional = [];
  sections =
      record {
        name = codes ".text";
        virtual_size = 0;
        virtual_address = 0;
        raw = Bytes (0xe8 ∷ 0 ∷ 0 ∷ 0 ∷ 0 ∷ replicate 11 0x90);
        flags = 0x60500020;
        relocations = record { address = 1; symbol = 9; kind = 4 } ∷ [];
      }
      ∷ record { name = codes ".data"; virtual_size = 0; virtual_address = 0; raw = Bytes (7 ∷ replicate 15 0); flags = 0xc0500040; relocations = [] }
      ∷ record { name = codes ".bss"; virtual_size = 0; virtual_address = 0; raw = Absent 0; flags = 0xc0500080; relocations = [] }
      ∷ [];
  symbols =
      record { name = codes ".file"; value = 0; section = belongs.Debug; kind = 0; class = 103; aux = codes "fake" ++ replicate 16 0 }
      ∷ record { name = codes ".text"; value = 0; section = belongs.Section 1; kind = 0; class = 3; aux = section_record 5 1 }
      ∷ record { name = codes ".data"; value = 0; section = belongs.Section 2; kind = 0; class = 3; aux = section_record 4 0 }
      ∷ record { name = codes ".bss"; value = 0; section = belongs.Section 3; kind = 0; class = 3; aux = section_record 0 0 }
      ∷ record { name = codes "f"; value = 0; section = belongs.Section 1; kind = 0; class = 2; aux = [] }
      ∷ record { name = codes "g"; value = 0; section = belongs.Undefined; kind = 0; class = 2; aux = [] }
      ∷ [];
}

row_header : take 56 (canon Big object) ≡ header
unfolding canon strings_of number_bytes
row_header = refl

row_symbols : drop 0xda (canon Big object) ≡ symbols
unfolding canon strings_of number_bytes
row_symbols = refl

row_accepted : first_standing (write_tests Big object) ≡ None
unfolding write_tests canon strings_of number_bytes
row_accepted = refl

-- its auxiliary records are not those of a plain object
row_not_plain : first_standing (write_tests Plain object) ≡ Some (record { number = 85; image = 0; place = Item 0 })
unfolding write_tests canon strings_of number_bytes field
row_not_plain = refl

-- what a big object does not store
row_characteristics : first_standing (write_tests Big (record object { characteristics = 4 })) ≡ Some (record { number = 85; image = 0; place = Item 0 })
unfolding write_tests canon strings_of number_bytes
row_characteristics = refl

row_optional : first_standing (write_tests Big (record object { optional = 0 ∷ [] })) ≡ Some (record { number = 85; image = 0; place = Item 0 })
unfolding write_tests canon strings_of number_bytes
row_optional = refl

-- a plain object's symbols have the numbers of sections up to 0xfffd: 0xfffe and 0xffff are DEBUG and ABSOLUTE
last_plain_number : needs_big_form [] (record { name = []; value = 0; section = belongs.Section 0xfffd; kind = 0; class = 0; aux = [] } ∷ []) ≡ false
last_plain_number = refl

first_number_past_plain : needs_big_form [] (record { name = []; value = 0; section = belongs.Section 0xfffe; kind = 0; class = 0; aux = [] } ∷ []) ≡ true
first_number_past_plain = refl

special_numbers_are_plain : needs_big_form [] (record { name = []; value = 0; section = belongs.Absolute; kind = 0; class = 0; aux = [] } ∷ []) ≡ false
special_numbers_are_plain = refl
