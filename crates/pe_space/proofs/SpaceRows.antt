-- Examples: small sets as the definitions see them, the bytes that they define, and those of their contents.
use Rattle.std.proofs.Common.{◌≡◌, ℕ, ◌-◌, false, List, [], ◌∷◌, Some, None, get_or, refl, codes}
use Rattle.std.specs.Prelude.{Ok, Err}
use Rattle.pe_view.specs.declared.fault.Place.TheVariants.{Address}
use Rattle.pe_head.specs.declared.optional.Magic.{Magic}
use Rattle.pe_head.specs.declared.optional.Magic.TheVariants.{Pe32, Pe32Plus}
use Rattle.pe_layout.specs.Image.{LaidOut}
use Rattle.pe_tables.specs.Key.{Name, Target, Forward}
use Rattle.pe_tables.specs.Key as keys
use Rattle.pe_tables.specs.Imports.{Import}
use Rattle.pe_tables.specs.declared.fixups.Fixup.{Fixup}
use Rattle.pe_tables.specs.declared.fixups.FixupKind.TheVariants.{Bits32, Bits64, High, Low}
use Rattle.pe_set.specs.Set.{Module}
use Rattle.pe_set.specs.Search.{resolve}
use Rattle.pe_set.specs.Bindings.{bindings_of}
use Rattle.pe_space.specs.Number.{shift}
use Rattle.pe_space.specs.Content as content
use Rattle.pe_space.specs.Content.{Content, nth_image, byte_at, window_at, base_at, size_at}
use Rattle.pe_space.specs.Ordered.{slot_of}
use Rattle.pe_space.specs.SetContent.{defined_byte}
use Rattle.pe_space.specs.Windows.{laid_on, fixed_bytes, bytes_in}

-- an image of 0x3000 bytes, with these bytes from an RVA on
abbrev image : ℕ → List ℕ → ℕ → LaidOut
image at bytes image_base = record {
  number = 0;
  size = 0x3000;
  byte = λ rva. get_or bytes (rva - at) 0;
  raw_left = λ _. 0;
  text = λ _. None;
  directory = λ _. None;
  slot_width = 4;
  image_base = image_base;
  is_stripped = false;
}

abbrev with_tables : List ℕ → ℕ → Magic → LaidOut → List (List ℕ × Target) → List Import → List Fixup → Module
with_tables name base magic image names imports fixups =
    record { name = name; base = base; magic = magic; image = image; exports = record { ordinals = []; names = names; name_ordinals = [] }; imports = imports; fixups = fixups }

-- an image with one field at 0x1008
abbrev with_field : ℕ → Magic → List ℕ → ℕ → Fixup → List Module
with_field base magic bytes image_base fixup = with_tables [] base magic (image 0x1008 bytes image_base) [] [] (fixup ∷ []) ∷ []

abbrev field_32 : Fixup
field_32 = record { entry = 0x2008; field = 0x1008; kind = Bits32 }

abbrev field_64 : Fixup
field_64 = record { entry = 0x2008; field = 0x1008; kind = Bits64 }

-- it holds 0x10001008; its image is 0x10000000 above its ImageBase
abbrev moved_up : List Module
moved_up = with_field 0x20000000 Pe32 (0x08 ∷ 0x10 ∷ 0x00 ∷ 0x10 ∷ 0x0c ∷ []) 0x10000000 field_32

field_first : defined_byte moved_up 0x20001008 ≡ Some 0x08
unfolding defined_byte bindings_of shift
field_first = refl

field_last : defined_byte moved_up 0x2000100b ≡ Some 0x20
unfolding defined_byte bindings_of shift
field_last = refl

past_field : defined_byte moved_up 0x2000100c ≡ Some 0x0c
unfolding defined_byte bindings_of
past_field = refl

image_last : defined_byte moved_up 0x20002fff ≡ Some 0
unfolding defined_byte bindings_of
image_last = refl

past_image : defined_byte moved_up 0x20003000 ≡ None
unfolding defined_byte
past_image = refl

before_image : defined_byte moved_up 0x1fffffff ≡ None
unfolding defined_byte
before_image = refl

-- relocating a field of 4 bytes past 2^32 does not change the fifth byte
abbrev carried : List Module
carried = with_field 0x10010000 Pe32 (0xff ∷ 0xff ∷ 0xff ∷ 0xff ∷ 0x0c ∷ []) 0x10000000 field_32

carry_third : defined_byte carried 0x1001100a ≡ Some 0x00
unfolding defined_byte bindings_of shift
carry_third = refl

carry_past : defined_byte carried 0x1001100c ≡ Some 0x0c
unfolding defined_byte bindings_of
carry_past = refl

-- a field of 8 bytes in an image below its ImageBase
abbrev moved_down : List Module
moved_down = with_field 0x140000000 Pe32Plus (0x00 ∷ 0x10 ∷ 0x00 ∷ 0x80 ∷ 0x01 ∷ []) 0x180000000 field_64

down_third : defined_byte moved_down 0x14000100b ≡ Some 0x40
unfolding defined_byte bindings_of shift
down_third = refl

down_fifth : defined_byte moved_down 0x14000100c ≡ Some 0x01
unfolding defined_byte bindings_of shift
down_fifth = refl

-- two fields of 2 bytes, which hold 0x1008 and 0x1000, in an image whose ImageBase is 0x10008000
abbrev halves : ℕ → List Module
halves base =
    with_tables [] base Pe32 (image 0x1008 (0x08 ∷ 0x10 ∷ 0x00 ∷ 0x10 ∷ 0x0c ∷ []) 0x10008000) [] []
    (record { entry = 0x2008; field = 0x1008; kind = Low } ∷ record { entry = 0x200a; field = 0x100a; kind = High } ∷ []) ∷ []

low_last : defined_byte (halves 0x20000000) 0x20001009 ≡ Some 0x90
unfolding defined_byte bindings_of shift
low_last = refl

high_first : defined_byte (halves 0x20000000) 0x2000100a ≡ Some 0xff
unfolding defined_byte bindings_of shift
high_first = refl

high_last : defined_byte (halves 0x20000000) 0x2000100b ≡ Some 0x1f
unfolding defined_byte bindings_of shift
high_last = refl

past_high : defined_byte (halves 0x20000000) 0x2000100c ≡ Some 0x0c
unfolding defined_byte bindings_of
past_high = refl

-- below its ImageBase
low_below : defined_byte (halves 0x10000000) 0x10001009 ≡ Some 0x90
unfolding defined_byte bindings_of shift
low_below = refl

high_below : defined_byte (halves 0x10000000) 0x1000100b ≡ Some 0x0f
unfolding defined_byte bindings_of shift
high_below = refl

-- `a.dll` forwards its `f` to `g` of `b`, which is at 0x1010 there; `c.exe` imports `f` from `A.DLL`
abbrev forwarding : Module
forwarding = with_tables (codes "a.dll") 0x10000000 Pe32 (image 0 [] 0x10000000) ((codes "f", Forward (codes "b") (Name (codes "g"))) ∷ []) [] []

abbrev exporting : Module
exporting = with_tables (codes "b.dll") 0x20000000 Pe32 (image 0 [] 0x20000000) ((codes "g", keys.Rva 0x1010) ∷ []) [] []

abbrev importing : Module
importing = with_tables (codes "c.exe") 0x400000 Pe32 (image 0x1030 (0x38 ∷ 0x10 ∷ []) 0x400000) [] (record { module_name = codes "A.DLL"; key = Name (codes "f"); slot = 0x1030 } ∷ []) []

abbrev three : List Module
three = forwarding ∷ exporting ∷ importing ∷ []

slot_first : defined_byte three 0x401030 ≡ Some 0x10
unfolding defined_byte bindings_of resolve
slot_first = refl

slot_last : defined_byte three 0x401033 ≡ Some 0x20
unfolding defined_byte bindings_of resolve
slot_last = refl

past_slot : defined_byte three 0x401034 ≡ Some 0
unfolding defined_byte bindings_of resolve
past_slot = refl

-- without `b.dll` the slot has the bytes of its file
left_alone : defined_byte (forwarding ∷ importing ∷ []) 0x401030 ≡ Some 0x38
unfolding defined_byte bindings_of resolve
left_alone = refl

-- ---- a content of one image of four bytes at 0x10000
abbrev four : Content
four = record {
  images = record { base = 0x10000; size = 4; magic = Pe32; image_base = 0x10000; is_stripped = false; plain = 1 ∷ 2 ∷ 3 ∷ 4 ∷ []; fixups = [] } ∷ [];
  bindings = record { image = 0; slot = 0; exporter = 0; rva = 2 } ∷ [];
}

-- its slot holds the address of its own byte 2, whatever its bytes are
bound_byte : byte_at four 0x10002 ≡ Some 1
bound_byte = refl

whole_window : window_at four 0x10000 4 ≡ Ok (2 ∷ 0 ∷ 1 ∷ 0 ∷ [])
whole_window = refl

long_window : window_at four 0x10001 4 ≡ Err (record { number = 54; image = 0; place = Address 0x10001 })
long_window = refl

lost_window : window_at four 0xffff 1 ≡ Err (record { number = 54; image = 65535; place = Address 0xffff })
lost_window = refl

empty_window : window_at four 0xffff 0 ≡ Ok []
empty_window = refl

first_base : base_at four 0 ≡ Some 0x10000
first_base = refl

no_second_size : size_at four 1 ≡ None
no_second_size = refl

-- a window may begin and end anywhere
whole_in : bytes_in four 0 0 4 ≡ 2 ∷ 0 ∷ 1 ∷ 0 ∷ []
unfolding bytes_in
whole_in = refl

last_three : bytes_in four 0 1 3 ≡ 0 ∷ 1 ∷ 0 ∷ []
unfolding bytes_in
last_three = refl

-- plain bytes outside bound slots
plain_in : fixed_bytes (nth_image four.images 0) 1 2 ≡ 2 ∷ 3 ∷ []
unfolding fixed_bytes
plain_in = refl

-- an image with a field at its first byte, 0x10000000 above its ImageBase
abbrev with_first_field : content.SpaceImage
with_first_field = record {
  base = 0x20000000;
  size = 5;
  magic = Pe32;
  image_base = 0x10000000;
  is_stripped = false;
  plain = 0x08 ∷ 0x10 ∷ 0x00 ∷ 0x10 ∷ 0x0c ∷ [];
  fixups = record { entry = 0; field = 0; kind = Bits32 } ∷ [];
}

behind_its_middle : fixed_bytes with_first_field 2 3 ≡ 0x00 ∷ 0x20 ∷ 0x0c ∷ []
unfolding fixed_bytes shift
behind_its_middle = refl

-- ---- a number written over a window
laid_whole : laid_on 0x1000 0x1001 2 0x2211 (9 ∷ 9 ∷ 9 ∷ 9 ∷ []) ≡ 9 ∷ 0x11 ∷ 0x22 ∷ 9 ∷ []
laid_whole = refl

cut_by_its_start : laid_on 0x1000 0x0ffd 4 0x44332211 (9 ∷ 9 ∷ []) ≡ 0x44 ∷ 9 ∷ []
cut_by_its_start = refl

cut_by_its_end : laid_on 0x1000 0x1001 4 0x44332211 (9 ∷ 9 ∷ 9 ∷ []) ≡ 9 ∷ 0x11 ∷ 0x22 ∷ []
cut_by_its_end = refl

cut_by_both : laid_on 0x1000 0x0fff 4 0x44332211 (9 ∷ 9 ∷ []) ≡ 0x22 ∷ 0x33 ∷ []
cut_by_both = refl

laid_beside : laid_on 0x1000 0x1002 4 0x44332211 (9 ∷ 9 ∷ []) ≡ 9 ∷ 9 ∷ []
laid_beside = refl

-- ---- the order of slots
second_image : slot_of (record { image = 1; slot = 0x10; exporter = 0; rva = 0 }) ≡ 0x100000010
second_image = refl
