-- The definitions computed on a small file.
use Rattle.std.proofs.Common.{◌≡◌, ℕ, List, [], ◌∷◌, length, take, Option, Some, None, refl}
use Rattle.pe_head.specs.Head.{head_of, section_at}
use Rattle.pe_head.specs.Section.{rawlen}
use Rattle.pe_head.specs.V1.{put, v1}
use Rattle.pe_view.specs.Faults.{first_standing}
use Rattle.pe_head.specs.HeaderFaults.{head_tests}
use Rattle.pe_view.specs.declared.fault.Fault.{Fault}
use Rattle.pe_view.specs.declared.fault.Place.TheVariants.{File}

v1_is_accepted : first_standing (head_tests 0 v1) ≡ None
unfolding head_tests
v1_is_accepted = refl

v1_cut : first_standing (head_tests 0 (take 0x5a v1)) ≡ Some (record { number = 8; image = 0; place = File 0x54 })
unfolding head_tests
v1_cut = refl

v1_size : (head_of v1).size_of_image ≡ 0x3000
v1_size = refl

v1_base : (head_of v1).image_base ≡ 0x10000000
v1_base = refl

v1_rawlen : rawlen (section_at v1 0) ≡ 0x10
v1_rawlen = refl

abbrev fault_at : List ℕ → Option Fault
fault_at file = first_standing (head_tests 0 file)

abbrev at : ℕ → ℕ → Option Fault
at n o = Some (record { number = n; image = 0; place = File o })

cut_57 : fault_at (take 0x57 v1) ≡ at 4 60
unfolding head_tests
cut_57 = refl

cut_58 : fault_at (take 0x58 v1) ≡ at 6 0x58
unfolding head_tests
cut_58 = refl

cut_138 : fault_at (take 0x138 v1) ≡ at 10 0x46
unfolding head_tests
cut_138 = refl

cut_160 : fault_at (take 0x160 v1) ≡ at 12 0x94
unfolding head_tests
cut_160 = refl

small_header : fault_at (put 0x54 (0xdf ∷ []) v1) ≡ at 7 0x54
unfolding head_tests
small_header = refl

many_sections : fault_at (put 0x46 (97 ∷ []) v1) ≡ at 9 0x46
unfolding head_tests
many_sections = refl

far_header : fault_at (put 0x3c (255 ∷ 255 ∷ 255 ∷ 255 ∷ []) v1) ≡ at 4 60
unfolding head_tests
far_header = refl

all_directories : fault_at (put 0xb4 (255 ∷ 255 ∷ 255 ∷ 255 ∷ []) v1) ≡ None
unfolding head_tests
all_directories = refl

sixteen : length (head_of (put 0xb4 (255 ∷ 255 ∷ 255 ∷ 255 ∷ []) v1)).directories.items ≡ 16
sixteen = refl

empty_file : fault_at [] ≡ at 2 0
unfolding head_tests
empty_file = refl
