-- A small object, read and written by the definitions.
use Rattle.std.proofs.Common.{◌≡◌, ℕ, List, [], ◌∷◌, ◌++◌, length, take, Option, Some, None, refl}
use Rattle.std.specs.Prelude.{slice_set, map, drop, replicate}
use Rattle.pe_view.specs.Faults.{first_standing}
use Rattle.pe_view.specs.declared.fault.Fault.{Fault}
use Rattle.pe_view.specs.declared.fault.Place.TheVariants.{File, Item}
use Rattle.pe_numbers.specs.Numbers.{number_bytes}
use Rattle.coff_read.specs.Field.{field}
use Rattle.coff_read.specs.ObjectFaults.{record_tests, object_tests}
use Rattle.coff_read.specs.Reading.{object_of}
use Rattle.coff_read.specs.Records.{Section, Symbol, Object, Bytes}
use Rattle.coff_object.specs.WriteFaults.{write_tests}
use Rattle.coff_object.specs.Written.{strings_of, canon}
use Rattle.coff_read.specs.declared.symbol.SymbolSection.TheVariants as belongs

abbrev pub o1 : Object
o1 = record {
  machine = 0x8664;
  time_stamp = 0;
  characteristics = 0;
  optional = [];
  sections = record {
    name = 0x2e ∷ 0x74 ∷ 0x65 ∷ 0x78 ∷ 0x74 ∷ 0x24 ∷ 0x6c ∷ 0x6f ∷ 0x6e ∷ 0x67 ∷ [];
    virtual_size = 0;
    virtual_address = 0;
    raw = Bytes (0xe8 ∷ 0 ∷ 0 ∷ 0 ∷ 0 ∷ 0xc3 ∷ []);
    flags = 0x60000020;
    relocations = record { address = 1; symbol = 3; kind = 4 } ∷ [];
  } ∷ [];
  symbols =
      record { name = 0x2e ∷ 0x66 ∷ 0x69 ∷ 0x6c ∷ 0x65 ∷ []; value = 0; section = belongs.Debug; kind = 0; class = 103; aux = 0x61 ∷ 0x2e ∷ 0x63 ∷ 0x00 ∷ 0x00 ∷ 0x00 ∷ 0x00 ∷ 0x00 ∷ 0x00 ∷ 0x00 ∷ 0x00 ∷ 0x00 ∷ 0x00 ∷ 0x00 ∷ 0x00 ∷ 0x00 ∷ 0x00 ∷ 0x00 ∷ [] }
      ∷ record { name = 0x61 ∷ 0x62 ∷ 0x63 ∷ 0x64 ∷ 0x65 ∷ 0x66 ∷ 0x67 ∷ 0x68 ∷ []; value = 0; section = belongs.Section 1; kind = 0x20; class = 2; aux = [] }
      ∷ record { name = 0x61 ∷ 0x62 ∷ 0x63 ∷ 0x64 ∷ 0x65 ∷ 0x66 ∷ 0x67 ∷ 0x68 ∷ 0x69 ∷ []; value = 0; section = belongs.Undefined; kind = 0; class = 2; aux = [] }
      ∷ record { name = []; value = 7; section = belongs.Absolute; kind = 0; class = 3; aux = [] }
      ∷ [];
}

abbrev pub o1_file : List ℕ
o1_file =
    0x64 ∷ 0x86 ∷ 0x01 ∷ 0x00 ∷ 0x00 ∷ 0x00 ∷ 0x00 ∷ 0x00 ∷ 0x4c ∷ 0x00 ∷ 0x00 ∷ 0x00 ∷ 0x05 ∷ 0x00 ∷ 0x00 ∷ 0x00 ∷
    0x00 ∷ 0x00 ∷ 0x00 ∷ 0x00 ∷ 0x2f ∷ 0x34 ∷ 0x00 ∷ 0x00 ∷ 0x00 ∷ 0x00 ∷ 0x00 ∷ 0x00 ∷ 0x00 ∷ 0x00 ∷ 0x00 ∷ 0x00 ∷
    0x00 ∷ 0x00 ∷ 0x00 ∷ 0x00 ∷ 0x06 ∷ 0x00 ∷ 0x00 ∷ 0x00 ∷ 0x3c ∷ 0x00 ∷ 0x00 ∷ 0x00 ∷ 0x42 ∷ 0x00 ∷ 0x00 ∷ 0x00 ∷
    0x00 ∷ 0x00 ∷ 0x00 ∷ 0x00 ∷ 0x01 ∷ 0x00 ∷ 0x00 ∷ 0x00 ∷ 0x20 ∷ 0x00 ∷ 0x00 ∷ 0x60 ∷ 0xe8 ∷ 0x00 ∷ 0x00 ∷ 0x00 ∷
    0x00 ∷ 0xc3 ∷ 0x01 ∷ 0x00 ∷ 0x00 ∷ 0x00 ∷ 0x03 ∷ 0x00 ∷ 0x00 ∷ 0x00 ∷ 0x04 ∷ 0x00 ∷ 0x2e ∷ 0x66 ∷ 0x69 ∷ 0x6c ∷
    0x65 ∷ 0x00 ∷ 0x00 ∷ 0x00 ∷ 0x00 ∷ 0x00 ∷ 0x00 ∷ 0x00 ∷ 0xfe ∷ 0xff ∷ 0x00 ∷ 0x00 ∷ 0x67 ∷ 0x01 ∷ 0x61 ∷ 0x2e ∷
    0x63 ∷ 0x00 ∷ 0x00 ∷ 0x00 ∷ 0x00 ∷ 0x00 ∷ 0x00 ∷ 0x00 ∷ 0x00 ∷ 0x00 ∷ 0x00 ∷ 0x00 ∷ 0x00 ∷ 0x00 ∷ 0x00 ∷ 0x00 ∷
    0x61 ∷ 0x62 ∷ 0x63 ∷ 0x64 ∷ 0x65 ∷ 0x66 ∷ 0x67 ∷ 0x68 ∷ 0x00 ∷ 0x00 ∷ 0x00 ∷ 0x00 ∷ 0x01 ∷ 0x00 ∷ 0x20 ∷ 0x00 ∷
    0x02 ∷ 0x00 ∷ 0x00 ∷ 0x00 ∷ 0x00 ∷ 0x00 ∷ 0x0f ∷ 0x00 ∷ 0x00 ∷ 0x00 ∷ 0x00 ∷ 0x00 ∷ 0x00 ∷ 0x00 ∷ 0x00 ∷ 0x00 ∷
    0x00 ∷ 0x00 ∷ 0x02 ∷ 0x00 ∷ 0x00 ∷ 0x00 ∷ 0x00 ∷ 0x00 ∷ 0x00 ∷ 0x00 ∷ 0x00 ∷ 0x00 ∷ 0x07 ∷ 0x00 ∷ 0x00 ∷ 0x00 ∷
    0xff ∷ 0xff ∷ 0x00 ∷ 0x00 ∷ 0x03 ∷ 0x00 ∷ 0x19 ∷ 0x00 ∷ 0x00 ∷ 0x00 ∷ 0x2e ∷ 0x74 ∷ 0x65 ∷ 0x78 ∷ 0x74 ∷ 0x24 ∷
    0x6c ∷ 0x6f ∷ 0x6e ∷ 0x67 ∷ 0x00 ∷ 0x61 ∷ 0x62 ∷ 0x63 ∷ 0x64 ∷ 0x65 ∷ 0x66 ∷ 0x67 ∷ 0x68 ∷ 0x69 ∷ 0x00 ∷ []

o1_written : canon o1 ≡ o1_file
unfolding canon strings_of number_bytes field
o1_written = refl

o1_is_not_refused : first_standing (write_tests o1) ≡ None
unfolding write_tests canon strings_of number_bytes field
o1_is_not_refused = refl

o1_read : object_of o1_file ≡ o1
unfolding field
o1_read = refl

abbrev at : ℕ → ℕ → Option Fault
at number offset = Some (record { number = number; image = 0; place = File offset })

o1_is_accepted : first_standing (object_tests o1_file) ≡ None
unfolding object_tests record_tests field
o1_is_accepted = refl

cut_165 : first_standing (object_tests (take 165 o1_file)) ≡ at 67 8
unfolding object_tests record_tests field
cut_165 = refl

cut_166 : first_standing (object_tests (take 166 o1_file)) ≡ at 69 20
unfolding object_tests record_tests field
cut_166 = refl

cut_168 : first_standing (object_tests (take 168 o1_file)) ≡ at 68 166
unfolding object_tests record_tests field
cut_168 = refl

cut_190 : first_standing (object_tests (take 190 o1_file)) ≡ at 68 166
unfolding object_tests record_tests field
cut_190 = refl

no_symbols : first_standing (object_tests (slice_set o1_file 8 0)) ≡ at 69 20
unfolding object_tests record_tests field
no_symbols = refl

symbol_5 : first_standing (object_tests (slice_set o1_file 70 5)) ≡ at 72 66
unfolding object_tests record_tests field
symbol_5 = refl

-- 20 zero bytes are an empty object
abbrev nothing : Object
nothing = record { machine = 0; time_stamp = 0; characteristics = 0; optional = []; sections = []; symbols = [] }

nothing_read : object_of (replicate 20 0) ≡ nothing
unfolding field
nothing_read = refl

nothing_accepted : first_standing (object_tests (replicate 20 0)) ≡ None
unfolding object_tests record_tests field
nothing_accepted = refl

nothing_written : canon nothing ≡ replicate 20 0
unfolding canon strings_of number_bytes field
nothing_written = refl

short_header : first_standing (object_tests (replicate 19 0)) ≡ at 61 19
unfolding object_tests record_tests field
short_header = refl

other_header : first_standing (object_tests (0 ∷ 0 ∷ 0xff ∷ 0xff ∷ replicate 16 0)) ≡ at 62 0
unfolding object_tests record_tests field
other_header = refl

-- the name `/4` of a section is in the string table
abbrev slash : Object
slash = record o1 { sections = map (λ (s : Section). record s { name = 0x2f ∷ 0x34 ∷ [] }) o1.sections }

slash_length : length (canon slash) ≡ 183
unfolding canon strings_of number_bytes field
slash_length = refl

slash_name : take 8 (drop 20 (canon slash)) ≡ 0x2f ∷ 0x34 ∷ 0 ∷ 0 ∷ 0 ∷ 0 ∷ 0 ∷ 0 ∷ []
unfolding canon strings_of number_bytes field
slash_name = refl

slash_read : object_of (canon slash) ≡ slash
unfolding canon strings_of number_bytes field
slash_read = refl

abbrev item : ℕ → ℕ → Option Fault
item number k = Some (record { number = number; image = 0; place = Item k })

-- a symbol in section 2 of one, and a zero byte in the second symbol's name
abbrev with_symbol : Symbol → Object
with_symbol s = record o1 { symbols = take 1 o1.symbols ++ s ∷ drop 2 o1.symbols }

section_2 : first_standing (write_tests (with_symbol (record { name = 0x61 ∷ []; value = 0; section = belongs.Section 2; kind = 0x20; class = 2; aux = [] }))) ≡ item 85 0
unfolding write_tests canon strings_of number_bytes field
section_2 = refl

zero_in_name : first_standing (write_tests (with_symbol (record { name = 0x61 ∷ 0 ∷ []; value = 0; section = belongs.Section 1; kind = 0x20; class = 2; aux = [] }))) ≡ item 81 2
unfolding write_tests canon strings_of number_bytes field
zero_in_name = refl
