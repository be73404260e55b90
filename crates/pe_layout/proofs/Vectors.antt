-- The bytes of a small image, computed.
use Rattle.std.proofs.Common.{◌≡◌, Some, None, take, refl}
use Rattle.std.specs.Prelude.{codes, slice_set}
use Rattle.pe_head.specs.Head.{head_of}
use Rattle.pe_view.specs.Faults.{first_standing}
use Rattle.pe_head.specs.HeaderFaults.{head_tests}
use Rattle.pe_head.specs.V1.{v1}
use Rattle.pe_view.specs.declared.fault.Place.TheVariants.{File}
use Rattle.pe_layout.specs.SectionFaults.{layout_tests, sections_tests}
use Rattle.pe_layout.specs.Plain.{plain}
use Rattle.pe_layout.specs.PieceText.{text}
use Rattle.pe_layout.specs.Locating.{located, raw_left}
use Rattle.pe_layout.specs.declared.locate.Located.TheVariants.{Raw, Gap}

last_raw : plain (head_of v1) v1 0x100F ≡ 0x0f
last_raw = refl

first_zero : plain (head_of v1) v1 0x1010 ≡ 0
first_zero = refl

accepted : first_standing (layout_tests 0 v1) ≡ None
unfolding head_tests sections_tests
accepted = refl

cut : first_standing (layout_tests 0 (take 0x20f v1)) ≡ Some (record { number = 13; image = 0; place = File 0x138 })
unfolding head_tests sections_tests
cut = refl

zero_size : located (head_of (slice_set v1 0x140 0)) 0x11ff ≡ Raw 0 0x3ff
zero_size = refl

gap : located (head_of (slice_set v1 0x140 0)) 0x1200 ≡ Gap
gap = refl

section_name : text (head_of v1) v1 0x138 ≡ Some (codes ".data")
section_name = refl

left_of_headers : raw_left (head_of v1) 0x1c0 ≡ 0x40
left_of_headers = refl

left_of_raw_data : raw_left (head_of v1) 0x1008 ≡ 8
left_of_raw_data = refl

none_in_zero_fill : raw_left (head_of v1) 0x1010 ≡ 0
none_in_zero_fill = refl

none_in_a_gap : raw_left (head_of v1) 0x800 ≡ 0
none_in_a_gap = refl

none_outside : raw_left (head_of v1) 0x4000_0000 ≡ 0
none_outside = refl
