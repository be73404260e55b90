-- The laid-out image of a small file, computed.
use Rattle.std.proofs.Common.{◌≡◌, List, ℕ, [], ◌∷◌, ◌++◌, Some, None, take, refl}
use Rattle.std.specs.List.{range_with_len}
use Rattle.pe_view.specs.declared.fault.Place.TheVariants.{File}
use Rattle.pe_view.specs.Faults.{first_standing}
use Rattle.pe_head.specs.HeaderFaults.{head_tests}
use Rattle.pe_head.specs.V1.{put, zeros}
use Rattle.pe_layout.specs.SectionFaults.{layout_tests, sections_tests}
use Rattle.pe_layout_file.specs.ImageFile.{image_bytes}

-- 264 bytes of headers: the image has 279 bytes. A section of 3 bytes is at RVA 0x10a, and has 5 bytes of raw data at 0x108; one of 6
-- bytes is at RVA 0x10f, and has 2 bytes of raw data at 0x10d.
abbrev headers : List ℕ
headers =
    put 0x00 (0x4d ∷ 0x5a ∷ []) (put 0x3c (0x40 ∷ []) (put 0x40 (0x50 ∷ 0x45 ∷ []) (put 0x44 (0x4c ∷ 0x01 ∷ 2 ∷ [])
    (put 0x54 (0x60 ∷ []) (put 0x58 (0x0b ∷ 1 ∷ []) (put 0x90 (0x17 ∷ 1 ∷ []) (put 0x94 (0x08 ∷ 1 ∷ [])
    (put 0xc0 (3 ∷ []) (put 0xc4 (0x0a ∷ 1 ∷ []) (put 0xc8 (5 ∷ []) (put 0xcc (0x08 ∷ 1 ∷ [])
    (put 0xe8 (6 ∷ []) (put 0xec (0x0f ∷ 1 ∷ []) (put 0xf0 (2 ∷ []) (put 0xf4 (0x0d ∷ 1 ∷ []) (zeros 264))))))))))))))))

abbrev small : List ℕ
small = headers ++ range_with_len 1 7

accepted : first_standing (layout_tests 0 small) ≡ None
unfolding head_tests sections_tests
accepted = refl

-- a gap, the raw data that VirtualSize leaves, a gap, raw data, zero fill, and a gap
laid_out : image_bytes small ≡ headers ++ (0 ∷ 0 ∷ 1 ∷ 2 ∷ 3 ∷ 0 ∷ 0 ∷ 6 ∷ 7 ∷ 0 ∷ 0 ∷ 0 ∷ 0 ∷ 0 ∷ 0 ∷ [])
laid_out = refl

-- without its last byte, the second section's raw data pass its end
cut : first_standing (layout_tests 0 (take 270 small)) ≡ Some (record { number = 13; image = 0; place = File 0xe0 })
unfolding head_tests sections_tests
cut = refl
