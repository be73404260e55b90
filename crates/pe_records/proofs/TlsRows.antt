-- Structures, the TLS directory and its callbacks by the definitions, as examples ("PE Format", The .tls Section).
use Rattle.std.proofs.Common.{◌≡◌, ℕ, ◌-◌, false, List, [], ◌∷◌, ◌++◌, Option, Some, None, get_or, length, take, refl}
use Rattle.std.specs.Prelude.{option_map, ◌==◌, if◌then◌else◌}
use Rattle.pe_view.specs.declared.fault.Fault.{Fault}
use Rattle.pe_view.specs.declared.fault.Place.TheVariants.{Rva}
use Rattle.pe_view.specs.Standing.{standing}
use Rattle.pe_layout.specs.Image.{LaidOut}
use Rattle.pe_records.specs.Callbacks.{addresses, callbacks_of}
use Rattle.pe_records.specs.TlsFields.{tls_in}
use Rattle.pe_records.specs.TlsTests.{tls_tests}
use Rattle.pe_records.specs.declared.tls_directory.TlsDirectory.{TlsDirectory}

-- the numbers 1 to 40
abbrev bytes : List ℕ
bytes =
    0x01 ∷ 0x02 ∷ 0x03 ∷ 0x04 ∷ 0x05 ∷ 0x06 ∷ 0x07 ∷ 0x08 ∷ 0x09 ∷ 0x0a ∷ 0x0b ∷ 0x0c ∷ 0x0d ∷ 0x0e ∷ 0x0f ∷ 0x10 ∷ 0x11 ∷ 0x12 ∷ 0x13 ∷ 0x14
    ∷ 0x15 ∷ 0x16 ∷ 0x17 ∷ 0x18 ∷ 0x19 ∷ 0x1a ∷ 0x1b ∷ 0x1c ∷ 0x1d ∷ 0x1e ∷ 0x1f ∷ 0x20 ∷ 0x21 ∷ 0x22 ∷ 0x23 ∷ 0x24 ∷ 0x25 ∷ 0x26 ∷ 0x27 ∷ 0x28 ∷ []

abbrev tls : Option ℕ → Option ℕ → Option ℕ → Option ℕ → Option ℕ → Option ℕ → TlsDirectory
tls start end index callbacks fill characteristics = record {
  start_address_of_raw_data = start;
  end_address_of_raw_data = end;
  address_of_index = index;
  address_of_callbacks = callbacks;
  size_of_zero_fill = fill;
  characteristics = characteristics;
}

of_pe32 : tls_in 4 bytes ≡ tls (Some 0x04030201) (Some 0x08070605) (Some 0x0c0b0a09) (Some 0x100f0e0d) (Some 0x14131211) (Some 0x18171615)
of_pe32 = refl

of_pe32_plus : tls_in 8 bytes
    ≡ tls (Some 0x0807060504030201) (Some 0x100f0e0d0c0b0a09) (Some 0x1817161514131211) (Some 0x201f1e1d1c1b1a19) (Some 0x24232221) (Some 0x28272625)
of_pe32_plus = refl

one_byte_less : tls_in 4 (take 23 bytes) ≡ tls (Some 0x04030201) (Some 0x08070605) (Some 0x0c0b0a09) (Some 0x100f0e0d) (Some 0x14131211) None
one_byte_less = refl

half : tls_in 8 (take 31 bytes) ≡ tls (Some 0x0807060504030201) (Some 0x100f0e0d0c0b0a09) (Some 0x1817161514131211) None None None
half = refl

nothing_held : tls_in 4 [] ≡ tls None None None None None None
nothing_held = refl

-- an image of PE32 of 0x3000 bytes at 0x10000000 with these at 0x2000, which is its TLS directory
abbrev image : List ℕ → LaidOut
image held = record {
  number = 7;
  size = 0x3000;
  byte = λ rva. get_or held (rva - 0x2000) 0;
  raw_left = λ rva. length held - (rva - 0x2000);
  text = λ _. None;
  directory = λ k. if k == 9 then Some (record { rva = 0x2000; size = 0 }) else None;
  slot_width = 4;
  image_base = 0x10000000;
  is_stripped = false;
}

-- little-endian numbers of four bytes: 0x1000xxyy, as the addresses are
abbrev address : ℕ → ℕ → List ℕ
address low high = low ∷ high ∷ 0x00 ∷ 0x10 ∷ []

abbrev none : List ℕ
none = 0 ∷ 0 ∷ 0 ∷ 0 ∷ []

-- a template of 4 bytes up to the end of the image, an index in the last byte, callbacks right after the directory
abbrev directory : List ℕ
directory = address 0xfc 0x2f ++ address 0x00 0x30 ++ address 0xff 0x2f ++ address 0x18 0x20 ++ none ++ none

abbrev two_callbacks : List ℕ
two_callbacks = address 0x00 0x10 ++ address 0xff 0x2f ++ none ++ address 0x00 0x11

abbrev callbacks : List ℕ → Option (List ℕ)
callbacks held = option_map addresses (callbacks_of (image held))

abbrev found : ℕ → ℕ → Fault
found number rva = record { number = number; image = 7; place = Rva rva }

whole : standing (tls_tests (image (directory ++ two_callbacks))) ≡ []
whole = refl

before_zero : callbacks (directory ++ two_callbacks) ≡ Some (0x10001000 ∷ 0x10002fff ∷ [])
before_zero = refl

-- the second one is cut, and no 0 is left
without_end : callbacks (directory ++ take 7 two_callbacks) ≡ Some (0x10001000 ∷ [])
without_end = refl

without_end_found : standing (tls_tests (image (directory ++ take 7 two_callbacks))) ≡ found 135 0x2018 ∷ []
without_end_found = refl

none_at_once : callbacks (directory ++ none) ≡ Some []
none_at_once = refl

-- the second one is the end of the image
second_strays : standing (tls_tests (image (directory ++ address 0x00 0x10 ++ address 0x00 0x30 ++ none))) ≡ found 136 0x201c ∷ []
second_strays = refl

no_callbacks : callbacks (take 12 directory ++ none ++ none ++ none) ≡ None
no_callbacks = refl

all_absent : standing (tls_tests (image (none ++ none ++ none ++ none ++ none ++ none))) ≡ []
all_absent = refl

cut : standing (tls_tests (image (take 12 directory ++ none ++ none ++ take 3 none))) ≡ found 131 0x2000 ∷ []
cut = refl

backward : standing (tls_tests (image (address 0x01 0x20 ++ address 0x00 0x20 ++ none ++ none ++ none ++ none))) ≡ found 132 0x2000 ∷ []
backward = refl

template_strays : standing (tls_tests (image (address 0xfc 0x2f ++ address 0x01 0x30 ++ none ++ none ++ none ++ none))) ≡ found 133 0x2000 ∷ []
template_strays = refl

index_strays : standing (tls_tests (image (none ++ none ++ address 0x00 0x30 ++ none ++ none ++ none))) ≡ found 133 0x2000 ∷ []
index_strays = refl

callbacks_stray : standing (tls_tests (image (none ++ none ++ none ++ address 0x00 0x30 ++ none ++ none))) ≡ found 134 0x2000 ∷ []
callbacks_stray = refl

-- an address below ImageBase
below : standing (tls_tests (image (none ++ none ++ none ++ (0xff ∷ 0xff ∷ 0xff ∷ 0x0f ∷ []) ++ none ++ none))) ≡ found 134 0x2000 ∷ []
below = refl
