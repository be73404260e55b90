-- Base relocation tables read and written by the definitions, as examples.
use Rattle.std.proofs.Common.{◌≡◌, ℕ, ◌-◌, false, List, [], ◌∷◌, Some, None, get_or, length, refl}
use Rattle.std.specs.Prelude.{pos, ◌-ℤ◌}
use Rattle.pe_view.specs.declared.fault.Place.TheVariants.{Rva}
use Rattle.pe_view.specs.Faults.{first_standing}
use Rattle.pe_layout.specs.Image.{LaidOut}
use Rattle.pe_tables.specs.Encoded.{encoded}
use Rattle.pe_tables.specs.FixupFaults.{fixup_tests, blocks_tests, entries_tests}
use Rattle.pe_tables.specs.Fixups.{fixups_of}
use Rattle.pe_tables.specs.Relocated.{shift}
use Rattle.pe_tables.specs.declared.fixups.Fixup.{Fixup}
use Rattle.pe_tables.specs.declared.fixups.FixupKind.TheVariants.{Bits32, Bits64, High, Low}

abbrev bits_32 : ℕ → ℕ → Fixup
bits_32 entry field = record { entry = entry; field = field; kind = Bits32 }

abbrev bits_64 : ℕ → ℕ → Fixup
bits_64 entry field = record { entry = entry; field = field; kind = Bits64 }

abbrev high : ℕ → ℕ → Fixup
high entry field = record { entry = entry; field = field; kind = High }

abbrev low : ℕ → ℕ → Fixup
low entry field = record { entry = entry; field = field; kind = Low }

-- an image of 0x3000 bytes with these at 0x2000, as its base relocation table
abbrev table : List ℕ → LaidOut
table bytes = record {
  number = 0;
  size = 0x3000;
  byte = λ rva. get_or bytes (rva - 0x2000) 0;
  raw_left = λ _. 0;
  text = λ _. None;
  directory = λ _. Some (record { rva = 0x2000; size = length bytes });
  slot_width = 4;
  image_base = 0x10000000;
  is_stripped = false;
}

two_pages : encoded (bits_32 0 0x1008 ∷ bits_32 0 0x1010 ∷ bits_32 0 0x3004 ∷ [])
    ≡ 0x00 ∷ 0x10 ∷ 0x00 ∷ 0x00 ∷ 0x0c ∷ 0x00 ∷ 0x00 ∷ 0x00 ∷ 0x08 ∷ 0x30 ∷ 0x10 ∷ 0x30
    ∷ 0x00 ∷ 0x30 ∷ 0x00 ∷ 0x00 ∷ 0x0c ∷ 0x00 ∷ 0x00 ∷ 0x00 ∷ 0x04 ∷ 0x30 ∷ 0x00 ∷ 0x00 ∷ []
two_pages = refl

two_kinds : encoded (bits_64 0 0x1ffc ∷ bits_32 0 0x2004 ∷ [])
    ≡ 0x00 ∷ 0x10 ∷ 0x00 ∷ 0x00 ∷ 0x0c ∷ 0x00 ∷ 0x00 ∷ 0x00 ∷ 0xfc ∷ 0xaf ∷ 0x00 ∷ 0x00
    ∷ 0x00 ∷ 0x20 ∷ 0x00 ∷ 0x00 ∷ 0x0c ∷ 0x00 ∷ 0x00 ∷ 0x00 ∷ 0x04 ∷ 0x30 ∷ 0x00 ∷ 0x00 ∷ []
two_kinds = refl

two_halves : encoded (high 0 0x100a ∷ low 0 0x1100 ∷ [])
    ≡ 0x00 ∷ 0x10 ∷ 0x00 ∷ 0x00 ∷ 0x0c ∷ 0x00 ∷ 0x00 ∷ 0x00 ∷ 0x0a ∷ 0x10 ∷ 0x00 ∷ 0x21 ∷ []
two_halves = refl

halves_read : fixups_of (table (0x00 ∷ 0x10 ∷ 0x00 ∷ 0x00 ∷ 0x0c ∷ 0x00 ∷ 0x00 ∷ 0x00 ∷ 0x08 ∷ 0x20 ∷ 0x0a ∷ 0x10 ∷ [])) ≡ low 0x2008 0x1008 ∷ high 0x200a 0x100a ∷ []
halves_read = refl

-- after the block 8 bytes remain, with a BlockSize of 0
one_fixup : fixups_of (table (0x00 ∷ 0x10 ∷ 0x00 ∷ 0x00 ∷ 0x0c ∷ 0x00 ∷ 0x00 ∷ 0x00 ∷ 0x08 ∷ 0x30 ∷ 0x00 ∷ 0x00 ∷ 0x00 ∷ 0x00 ∷ 0x00 ∷ 0x00 ∷ 0x00 ∷ 0x00 ∷ 0x00 ∷ 0x00 ∷ []))
    ≡ bits_32 0x2008 0x1008 ∷ []
one_fixup = refl

odd_size : first_standing (fixup_tests (table (0x00 ∷ 0x10 ∷ 0x00 ∷ 0x00 ∷ 0x09 ∷ 0x00 ∷ 0x00 ∷ 0x00 ∷ 0x08 ∷ 0x30 ∷ 0x00 ∷ 0x00 ∷ [])) [])
    ≡ Some (record { number = 33; image = 0; place = Rva 0x2000 })
unfolding blocks_tests entries_tests
odd_size = refl

-- the field is at 2^32
no_wrap : first_standing (fixup_tests (table (0xff ∷ 0xff ∷ 0xff ∷ 0xff ∷ 0x0c ∷ 0x00 ∷ 0x00 ∷ 0x00 ∷ 0x01 ∷ 0x30 ∷ 0x00 ∷ 0x00 ∷ [])) [])
    ≡ Some (record { number = 36; image = 0; place = Rva 0x2008 })
unfolding blocks_tests entries_tests
no_wrap = refl

-- type 4, HIGHADJ
other_type : first_standing (fixup_tests (table (0x00 ∷ 0x10 ∷ 0x00 ∷ 0x00 ∷ 0x0c ∷ 0x00 ∷ 0x00 ∷ 0x00 ∷ 0x08 ∷ 0x40 ∷ 0x00 ∷ 0x00 ∷ [])) [])
    ≡ Some (record { number = 35; image = 0; place = Rva 0x2008 })
unfolding blocks_tests entries_tests
other_type = refl

-- a field of 2 bytes up to the image's end, and past it
half_inside : first_standing (fixup_tests (table (0x00 ∷ 0x20 ∷ 0x00 ∷ 0x00 ∷ 0x0c ∷ 0x00 ∷ 0x00 ∷ 0x00 ∷ 0xfe ∷ 0x1f ∷ 0x00 ∷ 0x00 ∷ [])) []) ≡ None
unfolding blocks_tests entries_tests
half_inside = refl

half_past : first_standing (fixup_tests (table (0x00 ∷ 0x20 ∷ 0x00 ∷ 0x00 ∷ 0x0c ∷ 0x00 ∷ 0x00 ∷ 0x00 ∷ 0xff ∷ 0x1f ∷ 0x00 ∷ 0x00 ∷ [])) [])
    ≡ Some (record { number = 36; image = 0; place = Rva 0x2008 })
unfolding blocks_tests entries_tests
half_past = refl

field_twice : first_standing (fixup_tests (table (0x00 ∷ 0x10 ∷ 0x00 ∷ 0x00 ∷ 0x0c ∷ 0x00 ∷ 0x00 ∷ 0x00 ∷ 0x08 ∷ 0x30 ∷ 0x08 ∷ 0x30 ∷ [])) [])
    ≡ Some (record { number = 37; image = 0; place = Rva 0x200a })
unfolding blocks_tests entries_tests
field_twice = refl

field_in_slot : first_standing (fixup_tests (table (0x00 ∷ 0x10 ∷ 0x00 ∷ 0x00 ∷ 0x0c ∷ 0x00 ∷ 0x00 ∷ 0x00 ∷ 0x33 ∷ 0x30 ∷ 0x00 ∷ 0x00 ∷ [])) (0x1030 ∷ []))
    ≡ Some (record { number = 38; image = 0; place = Rva 0x2008 })
unfolding blocks_tests entries_tests
field_in_slot = refl

-- ---- an image with ImageBase 0x10008000, above it and below it, whose fields of 2 bytes hold 0x1000 and 0x1008
high_above : shift High 0x1000 (pos 0x20000000 -ℤ pos 0x10008000) ≡ 0x1fff
unfolding shift
high_above = refl

high_below : shift High 0x1000 (pos 0x10000000 -ℤ pos 0x10008000) ≡ 0x0fff
unfolding shift
high_below = refl

low_above : shift Low 0x1008 (pos 0x20000000 -ℤ pos 0x10008000) ≡ 0x9008
unfolding shift
low_above = refl

low_below : shift Low 0x1008 (pos 0x10000000 -ℤ pos 0x10008000) ≡ 0x9008
unfolding shift
low_below = refl
