-- The load configuration by the definitions, as examples ("PE Format", The Load Configuration Structure).
use Rattle.std.proofs.Common.{◌≡◌, ℕ, ◌-◌, false, List, [], ◌∷◌, ◌++◌, Some, None, get_or, length, map, take, refl}
use Rattle.std.specs.Prelude.{◌==◌, if◌then◌else◌}
use Rattle.std.specs.List.{range_with_len}
use Rattle.pe_view.specs.declared.fault.Fault.{Fault}
use Rattle.pe_view.specs.declared.fault.Place.TheVariants.{Rva}
use Rattle.pe_view.specs.Standing.{standing}
use Rattle.pe_layout.specs.Image.{LaidOut}
use Rattle.pe_records.specs.LoadConfiguration.{load_bytes}
use Rattle.pe_records.specs.LoadTables.{load_table_in}
use Rattle.pe_records.specs.LoadTests.{load_tests}
use Rattle.pe_records.specs.Structure.{field, field_in}
use Rattle.pe_records.specs.declared.load_tables.LoadTableKind.TheVariants.{Handlers, Functions, EhContinuations, IatEntries, LongJumpTargets}
use Rattle.pe_records.specs.declared.structure.Width.TheVariants.{Two, Four, Address}

-- the numbers 1 to 192
abbrev bytes : List ℕ
bytes = map (λ k. k) (range_with_len 1 192)

two : field_in 4 bytes (field 52 76 Two) ≡ Some 0x3635
two = refl

two_of_plus : field_in 8 bytes (field 52 76 Two) ≡ Some 0x4e4d
two_of_plus = refl

four : field_in 4 bytes (field 88 144 Four) ≡ Some 0x5c5b5a59
four = refl

four_of_plus : field_in 8 bytes (field 88 144 Four) ≡ Some 0x94939291
four_of_plus = refl

address : field_in 4 bytes (field 60 88 Address) ≡ Some 0x403f3e3d
address = refl

address_of_plus : field_in 8 bytes (field 60 88 Address) ≡ Some 0x605f5e5d5c5b5a59
address_of_plus = refl

last : field_in 4 bytes (field 188 312 Address) ≡ Some 0xc0bfbebd
last = refl

one_byte_less : field_in 4 (take 191 bytes) (field 188 312 Address) ≡ None
one_byte_less = refl

not_in_plus : field_in 8 bytes (field 188 312 Address) ≡ None
not_in_plus = refl

-- GuardFlags are 0x5c5b5a59, of which the top four bits are 5
functions : load_table_in 4 bytes Functions ≡ Some (record { address = 0x54535251; count = 0x58575655; stride = 9 })
functions = refl

handlers : load_table_in 4 bytes Handlers ≡ Some (record { address = 0x44434241; count = 0x48474645; stride = 4 })
handlers = refl

continuations : load_table_in 4 bytes EhContinuations ≡ Some (record { address = 0xa8a7a6a5; count = 0xacabaaa9; stride = 9 })
continuations = refl

iat_entries : load_table_in 8 bytes IatEntries ≡ Some (record { address = 0xa8a7a6a5a4a3a2a1; count = 0xb0afaeadacabaaa9; stride = 13 })
iat_entries = refl

long_jumps : load_table_in 8 bytes LongJumpTargets ≡ Some (record { address = 0xb8b7b6b5b4b3b2b1; count = 0xc0bfbebdbcbbbab9; stride = 13 })
long_jumps = refl

no_count : load_table_in 4 (take 71 bytes) Handlers ≡ None
no_count = refl

-- an image of PE32 of 0x3000 bytes at 0x10000000 with these at 0x2000, which is its load configuration
abbrev image : List ℕ → LaidOut
image held = record {
  number = 7;
  size = 0x3000;
  byte = λ rva. get_or held (rva - 0x2000) 0;
  raw_left = λ rva. length held - (rva - 0x2000);
  text = λ _. None;
  directory = λ k. if k == 10 then Some (record { rva = 0x2000; size = 0x40 }) else None;
  slot_width = 4;
  image_base = 0x10000000;
  is_stripped = false;
}

abbrev zeros : ℕ → List ℕ
zeros n = map (λ _. 0) (range_with_len 0 n)

-- a structure of 0x48 bytes with two handlers after it, at 0x2048
abbrev safe : ℕ → List ℕ
safe size =
    size ∷ 0 ∷ 0 ∷ 0 ∷ zeros 60
    ++ 0x48 ∷ 0x20 ∷ 0x00 ∷ 0x10 ∷ 0x02 ∷ 0x00 ∷ 0x00 ∷ 0x00 ∷ 0x00 ∷ 0x10 ∷ 0x00 ∷ 0x00 ∷ 0x08 ∷ 0x10 ∷ 0x00 ∷ 0x00 ∷ []

abbrev found : ℕ → Fault
found number = record { number = number; image = 7; place = Rva 0x2000 }

whole : standing (load_tests (image (safe 0x48))) ≡ []
whole = refl

by_its_size : load_bytes (image (safe 5)) ≡ Some (5 ∷ 0 ∷ 0 ∷ 0 ∷ 0 ∷ [])
by_its_size = refl

one_handler_less : standing (load_tests (image (take 79 (safe 0x48)))) ≡ found 144 ∷ []
one_handler_less = refl

no_size : standing (load_tests (image (take 3 (safe 0x48)))) ≡ found 141 ∷ []
no_size = refl

size_passes : standing (load_tests (image (safe 0x51))) ≡ found 142 ∷ []
size_passes = refl

size_of_3 : standing (load_tests (image (safe 3))) ≡ found 143 ∷ []
size_of_3 = refl
