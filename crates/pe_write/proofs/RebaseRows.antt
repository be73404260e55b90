-- Examples: small files for other bases, computed.
use Rattle.std.proofs.Common.{◌≡◌, ℕ, List, [], ◌∷◌, ◌++◌, Some, None, refl}
use Rattle.std.specs.List.{range_with_len}
use Rattle.pe_view.specs.Faults.{first_standing}
use Rattle.pe_view.specs.declared.fault.Place.TheVariants.{File, Rva, Address}
use Rattle.pe_head.specs.HeaderFaults.{head_tests}
use Rattle.pe_head.specs.V1.{put, v1, zeros}
use Rattle.pe_layout.specs.SectionFaults.{sections_tests}
use Rattle.pe_tables.specs.FixupFaults.{blocks_tests, entries_tests}
use Rattle.pe_tables.specs.Relocated.{shift}
use Rattle.pe_tables.specs.Patch.{patch, shifted_at}
use Rattle.pe_view.specs.Number.{byte_of}
use Rattle.pe_write.specs.Rebase.{rebased, put_header}
use Rattle.pe_write.specs.RebaseFaults.{fields_tests, ranges_tests, rebase_tests}

-- one block for the page 0x1000, with this entry and one of padding
abbrev block : ℕ → ℕ → List ℕ
block low high = 0 ∷ 0x10 ∷ 0 ∷ 0 ∷ 0x0c ∷ 0 ∷ 0 ∷ 0 ∷ low ∷ high ∷ 0 ∷ 0 ∷ []

-- V1 with a base relocation table at 0x2000, whose one field is the four bytes at 0x1008
abbrev v2 : List ℕ
v2 =
    put 0x46 (2 ∷ []) (put 0xe0 (0 ∷ 0x20 ∷ 0 ∷ 0 ∷ 0x0c ∷ []) (put 0x168 (0x0c ∷ []) (put 0x16d (0x20 ∷ [])
    (put 0x171 (2 ∷ []) (put 0x175 (4 ∷ []) (put 0x208 (8 ∷ 0x10 ∷ 0 ∷ 0x10 ∷ []) v1)))))) ++ block 8 0x30

-- V2 as PE32+, whose field is the eight bytes at 0x1008
abbrev v3 : List ℕ
v3 =
    put 0 (0x4d ∷ 0x5a ∷ []) (put 0x3c (0x40 ∷ []) (put 0x40 (0x50 ∷ 0x45 ∷ []) (put 0x44 (0x64 ∷ 0x86 ∷ 2 ∷ [])
    (put 0x54 (0xf0 ∷ 0 ∷ 0x22 ∷ 0x20 ∷ 0x0b ∷ 2 ∷ []) (put 0x73 (0x80 ∷ 1 ∷ []) (put 0x91 (0x30 ∷ []) (put 0x95 (2 ∷ [])
    (put 0xc4 (0x10 ∷ []) (put 0xf0 (0 ∷ 0x20 ∷ 0 ∷ 0 ∷ 0x0c ∷ []) (put 0x150 (0x10 ∷ 0 ∷ 0 ∷ 0 ∷ 0 ∷ 0x10 ∷ 0 ∷ 0 ∷ 0 ∷ 2 ∷ 0 ∷ 0 ∷ 0 ∷ 2 ∷ [])
    (put 0x178 (0x0c ∷ 0 ∷ 0 ∷ 0 ∷ 0 ∷ 0x20 ∷ 0 ∷ 0 ∷ 0 ∷ 2 ∷ 0 ∷ 0 ∷ 0 ∷ 4 ∷ []) (zeros 0x200))))))))))))
    ++ (put 8 (0 ∷ 0x10 ∷ 0 ∷ 0x80 ∷ 1 ∷ 0 ∷ 0 ∷ 0 ∷ []) (range_with_len 0 256) ++ (range_with_len 0 256 ++ block 8 0xa0))

-- the byte at an offset of the file for a base
abbrev at : List ℕ → ℕ → ℕ → ℕ
at file base o = byte_of (rebased file base) o

v2_has_none : first_standing (rebase_tests v2 0x20000000) ≡ None
unfolding rebase_tests head_tests sections_tests blocks_tests entries_tests fields_tests ranges_tests
v2_has_none = refl

v2_base : at v2 0x20000000 0x77 ≡ 0x20
unfolding rebased put_header patch shifted_at shift
v2_base = refl

v2_field_first : at v2 0x20000000 0x208 ≡ 0x08
unfolding rebased put_header patch shifted_at shift
v2_field_first = refl

v2_field_last : at v2 0x20000000 0x20b ≡ 0x20
unfolding rebased put_header patch shifted_at shift
v2_field_last = refl

v2_past_field : at v2 0x20000000 0x20c ≡ 0x0c
unfolding rebased put_header patch shifted_at shift
v2_past_field = refl

v2_check_sum : at (put 0x98 (1 ∷ 2 ∷ 3 ∷ 4 ∷ []) v2) 0x20000000 0x9b ≡ 0
unfolding rebased put_header patch shifted_at shift
v2_check_sum = refl

v3_has_none : first_standing (rebase_tests v3 0x140000000) ≡ None
unfolding rebase_tests head_tests sections_tests blocks_tests entries_tests fields_tests ranges_tests
v3_has_none = refl

v3_base : at v3 0x140000000 0x73 ≡ 0x40
unfolding rebased put_header patch shifted_at shift
v3_base = refl

v3_field : at v3 0x140000000 0x20b ≡ 0x40
unfolding rebased put_header patch shifted_at shift
v3_field = refl

v3_field_high : at v3 0x140000000 0x20c ≡ 0x01
unfolding rebased put_header patch shifted_at shift
v3_field_high = refl

-- V2 with ImageBase 0x10008000 and two fields of 2 bytes: LOW at 0x1008, HIGH at 0x100a
abbrev halves : List ℕ
halves = put 0x75 (0x80 ∷ []) (put 0x408 (8 ∷ 0x20 ∷ 0x0a ∷ 0x10 ∷ []) v2)

halves_have_none : first_standing (rebase_tests halves 0x20000000) ≡ None
unfolding rebase_tests head_tests sections_tests blocks_tests entries_tests fields_tests ranges_tests
halves_have_none = refl

halves_low : at halves 0x20000000 0x209 ≡ 0x90
unfolding rebased put_header patch shifted_at shift
halves_low = refl

halves_high : at halves 0x20000000 0x20a ≡ 0xff
unfolding rebased put_header patch shifted_at shift
halves_high = refl

halves_high_below : at halves 0x10000000 0x20b ≡ 0x0f
unfolding rebased put_header patch shifted_at shift
halves_high_below = refl

-- a field that begins four bytes before the image's end, in a gap
in_gap : first_standing (rebase_tests (put 0x401 (0x20 ∷ []) (put 0x408 (0xfc ∷ 0x3f ∷ []) v2)) 0x20000000) ≡ Some (record { number = 51; image = 0; place = Rva 0x2ffc })
unfolding rebase_tests head_tests sections_tests blocks_tests entries_tests fields_tests
in_gap = refl

-- raw data that begins in the headers
in_headers : first_standing (rebase_tests (put 0x14c (0xf0 ∷ 1 ∷ []) v1) 0x20000000) ≡ Some (record { number = 52; image = 0; place = File 0x138 })
unfolding rebase_tests head_tests sections_tests fields_tests ranges_tests
in_headers = refl

off_base : first_standing (rebase_tests v2 0x20008000) ≡ Some (record { number = 44; image = 0; place = Address 0x20008000 })
unfolding rebase_tests head_tests sections_tests blocks_tests entries_tests
off_base = refl
