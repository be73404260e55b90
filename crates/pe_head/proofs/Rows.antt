-- The rows of a section table, as chunks of the file.
use Rattle.std.proofs.Common.{◌≡◌, ◌∙◌, refl, ℕ, zero, suc, ◌+◌, ◌-◌, ◌*◌, ◌<◌, ◌≤◌, List, length, length-take, get_or, take, drop, ap, arith}
use Rattle.std.specs.Simd.{first_chunks}
use Rattle.std.proofs.lemmas.List.{length-drop, get_or-take, get_or-drop, drop-drop, drop-take, take-take}
use Rattle.pe_view.specs.Number.{num, byte_of, part}
use Rattle.pe_head.specs.Section.{section_header}

-- chunk k of a list
pub chunk_at : {X : Type 0} (n count k : ℕ) (xs d : List X) → k < count → get_or (first_chunks n count xs) k d ≡ take n (drop (n * k) xs)
chunk_at n zero k xs d lt = absurd (omega (arith, lt))
chunk_at n (suc count) zero xs d lt =
    let none : 0 ≡ n * 0 = omega arith in
    ap (λ (m : ℕ). take n (drop m xs)) none
chunk_at n (suc count) (suc k) xs d lt =
    let next : n + n * k ≡ n * suc k = omega arith in
    chunk_at n count k (drop n xs) d (omega (arith, lt)) ∙ ap (take n) (drop-drop (n * k) n xs ∙ ap (λ (m : ℕ). drop m xs) next)

byte_in : (file : List ℕ) (start len k : ℕ) → k < len → byte_of (part file start len) k ≡ byte_of file (start + k)
byte_in file start len k lt = get_or-take len (drop start file) k 0 lt ∙ get_or-drop start file k 0

-- a number in a part of a file is the file's
pub num_in : (file : List ℕ) (start len k width : ℕ) → k + width ≤ len → num (byte_of (part file start len)) k width ≡ num (byte_of file) (start + k) width
num_in file start len k zero le = refl
num_in file start len k (suc width) le =
    let next : start + (k + 1) ≡ start + k + 1 = omega arith in
    ap (λ (b : ℕ). b + 256 * num (byte_of (part file start len)) (k + 1) width) (byte_in file start len k (omega (arith, le)))
    ∙ ap (λ (n : ℕ). byte_of file (start + k) + 256 * n) (num_in file start len (k + 1) width (omega (arith, le)) ∙ ap (λ (p : ℕ). num (byte_of file) p width) next)

-- the bytes of a part inside the file are as many as it has
pub part_len : (file : List ℕ) (start len : ℕ) → start + len ≤ length file → length (part file start len) ≡ len
part_len file start len le = let rest : length (drop start file) ≡ length file - start = length-drop start file in simp length-take (omega (arith, rest, le))

-- the section header in the part of the file that it is
header_in_part : (file : List ℕ) (start : ℕ) → section_header (part file start 40) 0 ≡ section_header file start
header_in_part file start =
    let here = λ (k width : ℕ) (le : k + width ≤ 40). num_in file start 40 k width le in
    rw (take-take 8 40 (drop start file) (omega arith), here 8 4 (omega arith), here 12 4 (omega arith), here 16 4 (omega arith), here 20 4 (omega arith), here 24 4 (omega arith), here 28 4 (omega arith), here 32 2 (omega arith), here 34 2 (omega arith), here 36 4 (omega arith)) refl

-- the section header in bytes that are that part
pub header_in : (file : List ℕ) (start : ℕ) (row : List ℕ) → row ≡ part file start 40 → section_header row 0 ≡ section_header file start
header_in file start row is = ap (λ (bytes : List ℕ). section_header bytes 0) is ∙ header_in_part file start

-- row k of the section table that a part of the file is
pub row_in : (file : List ℕ) (start count k : ℕ) (d : List ℕ) → k < count → get_or (first_chunks 40 count (part file start (40 * count))) k d ≡ part file (start + 40 * k) 40
row_in file start count k d lt =
    let room : 40 * k + 40 ≤ 40 * count = omega (arith, lt) in
    let left : 40 * count ≡ 40 * k + (40 * count - 40 * k) = omega (arith, room) in
    chunk_at 40 count k (part file start (40 * count)) d lt
    ∙ ap (take 40) (ap (λ (n : ℕ). drop (40 * k) (take n (drop start file))) left ∙ drop-take (40 * k) (40 * count - 40 * k) (drop start file))
    ∙ take-take 40 (40 * count - 40 * k) (drop (40 * k) (drop start file)) (omega (arith, room))
    ∙ ap (take 40) (drop-drop (40 * k) start file)
