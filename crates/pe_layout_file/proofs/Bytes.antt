-- The bytes of an image, which are given by a function of their place.
use Rattle.std.proofs.Common.{◌≡◌, ℕ, zero, suc, ◌+◌, ◌<◌, ◌≤◌, List, ◌++◌, length, get_or, take, drop, refl, ap, ◌∙◌, arith}
use Rattle.std.specs.Prelude.{map, replicate}
use Rattle.std.specs.List.{range_with_len}
use Rattle.std.proofs.lemmas.List.{drop_more}

-- bytes that are a part of the file
pub part_of_file : (f : ℕ → ℕ) (file : List ℕ) (a o n : ℕ) → (0 < n → o + n ≤ length file) → ((k : ℕ) → k < n → f (a + k) ≡ get_or file (o + k) 0)
    → map f (range_with_len a n) ≡ take n (drop o file)
part_of_file f file a o zero held same = refl
part_of_file f file a o (suc n) held same =
    let fits : o + suc n ≤ length file = held (omega arith) in
    let here : f a ≡ get_or file o 0 = ap f (omega arith) ∙ same 0 (omega arith) ∙ ap (λ (k : ℕ). get_or file k 0) (omega arith) in
    let rest : map f (range_with_len (a + 1) n) ≡ take n (drop (o + 1) file) =
    part_of_file f file (a + 1) (o + 1) n (λ _. omega arith) (λ k lt. ap f (omega arith) ∙ same (suc k) (omega arith) ∙ ap (λ (j : ℕ). get_or file j 0) (omega arith)) in
    rw (drop_more file o 0 (omega arith), here, rest) refl

-- bytes that are all 0
pub all_zeros : (f : ℕ → ℕ) (a n : ℕ) → ((k : ℕ) → k < n → f (a + k) ≡ 0) → map f (range_with_len a n) ≡ replicate n 0
all_zeros f a zero same = refl
all_zeros f a (suc n) same =
    let here : f a ≡ 0 = ap f (omega arith) ∙ same 0 (omega arith) in
    rw (here, all_zeros f (a + 1) n (λ k lt. ap f (omega arith) ∙ same (suc k) (omega arith))) refl

-- bytes, and those after them
pub bytes_then : (f : ℕ → ℕ) (a m n : ℕ) → map f (range_with_len a (m + n)) ≡ map f (range_with_len a m) ++ map f (range_with_len (a + m) n)
bytes_then f a zero n = let e : a ≡ a + 0 = omega arith in let z : 0 + n ≡ n = omega arith in rw z (ap (λ (r : ℕ). map f (range_with_len r n)) e)
bytes_then f a (suc m) n =
    let k : suc m + n ≡ suc (m + n) = omega arith in
    let e : a + 1 + m ≡ a + suc m = omega arith in
    rw (k, bytes_then f (a + 1) m n, e) refl
