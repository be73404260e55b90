-- The small file V1, with one section .data of 16 bytes. Examples in the proofs of several crates compute on its bytes.
use Rattle.std.specs.Prelude.{ℕ, zero, suc, ◌+◌, List, [], ◌∷◌, ◌++◌, slice_set}
use Rattle.std.specs.List.{range_with_len}

abbrev pub zeros : ℕ → List ℕ
zeros zero = []
zeros (suc n) = 0 ∷ zeros n

-- a file with the bytes written at the offset
abbrev pub put : ℕ → List ℕ → List ℕ → List ℕ
put o [] file = file
put o (b ∷ bs) file = put (o + 1) bs (slice_set file o b)

abbrev pub v1 : List ℕ
v1 =
    put 0x00 (0x4d ∷ 0x5a ∷ []) (put 0x3c (0x40 ∷ []) (put 0x40 (0x50 ∷ 0x45 ∷ []) (put 0x44 (0x4c ∷ 0x01 ∷ [])
    (put 0x46 (1 ∷ []) (put 0x54 (0xe0 ∷ []) (put 0x56 (2 ∷ 0x21 ∷ []) (put 0x58 (0x0b ∷ 1 ∷ [])
    (put 0x77 (0x10 ∷ []) (put 0x79 (0x10 ∷ []) (put 0x7d (2 ∷ []) (put 0x91 (0x30 ∷ []) (put 0x95 (2 ∷ [])
    (put 0xb4 (0x10 ∷ []) (put 0x138 (0x2e ∷ 0x64 ∷ 0x61 ∷ 0x74 ∷ 0x61 ∷ []) (put 0x140 (0x10 ∷ [])
    (put 0x145 (0x10 ∷ []) (put 0x149 (2 ∷ []) (put 0x14d (2 ∷ []) (put 0x15c (0x40 ∷ []) (put 0x15f (0xc0 ∷ [])
    (zeros 0x200))))))))))))))))))))) ++ (range_with_len 0 256 ++ range_with_len 0 256)
