-- The header faults, in the order in which they are tested.
use Rattle.std.specs.Prelude.{ℕ, ◌+◌, ◌*◌, ◌^◌, ◌==◌, ◌&&◌, ◌||◌, Bool, not, nat_lt, nat_le, List, [], ◌∷◌, length, if◌then◌else◌}
use Rattle.pe_view.specs.declared.fault.Place.TheVariants.{File}
use Rattle.pe_view.specs.Number.{num, byte_of}
use Rattle.pe_view.specs.Faults.{Test, test}
use Rattle.pe_head.specs.Head.{pe_offset, coff_field, field, fixed_size, optional_start, directory_count, table_start, section_start}

-- a field of the optional header is inside the file
abbrev pub has_field : List ℕ → ℕ → ℕ → Bool
has_field file offset width = nat_le (optional_start file + offset + width) (length file)

-- the size of the directories in bytes; NumberOfRvaAndSizes counts as 0 if it isn't inside the file
abbrev pub directory_bytes : List ℕ → ℕ
directory_bytes file = if nat_le (optional_start file + fixed_size file) (length file) then 8 * directory_count file else 0

-- faults 1 to 12
unfoldable pub head_tests : ℕ → List ℕ → List Test
head_tests image file =
    let n = length file in
    let p = pe_offset file in
    let table_end = section_start file (coff_field file 2 2) in
    test 1 image (File (2 ^ 32)) (nat_lt (2 ^ 32) n)
    ∷ test 2 image (File n) (nat_lt n 64)
    ∷ test 3 image (File 0) (not (num (byte_of file) 0 2 == 0x5a4d))
    ∷ test 4 image (File 60) (nat_lt n (p + 24))
    ∷ test 5 image (File p) (not (num (byte_of file) p 4 == 0x4550))
    ∷ test 6 image (File (p + 24)) (not (has_field file 0 2 && (field file 0 2 == 0x10b || field file 0 2 == 0x20b)))
    ∷ test 7 image (File (p + 20)) (nat_lt (coff_field file 16 2) (fixed_size file + directory_bytes file))
    ∷ test 8 image (File (p + 20)) (nat_lt n (table_start file))
    ∷ test 9 image (File (p + 6)) (nat_lt 96 (coff_field file 2 2))
    ∷ test 10 image (File (p + 6)) (nat_lt n table_end)
    ∷ test 11 image (File (p + 80)) (field file 56 4 == 0 || nat_lt (2 ^ 31) (field file 56 4))
    ∷ test 12 image (File (p + 84)) (nat_lt (field file 60 4) table_end || (nat_lt n (field file 60 4) || nat_lt (field file 56 4) (field file 60 4)))
    ∷ []
