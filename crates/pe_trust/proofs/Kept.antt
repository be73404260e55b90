-- The bytes of a file at the offsets that a test lets through, range by range.
use Rattle.std.proofs.Common.{◌≡◌, ◌∙◌, refl, ℕ, zero, suc, ◌+◌, ◌-◌, ◌<◌, ◌≤◌, Bool, true, false, List, [], ◌∷◌, ◌++◌, length, take, drop, map, sym, ap, arith, drop-cons}
use Rattle.std.specs.Prelude.{filter, slice_range}
use Rattle.std.specs.List.{range_with_len}
use Rattle.std.proofs.lemmas.List.{map-append}
use Rattle.std.proofs.lemmas.List.Elements.{filter-append}
use Rattle.pe_view.specs.Number.{byte_of}

ranges : (a n m : ℕ) → range_with_len a (n + m) ≡ range_with_len a n ++ range_with_len (a + n) m
ranges a zero m =
    let e : 0 + m ≡ m = omega arith in
    let at : a + 0 ≡ a = omega arith in
    rw (e, at) refl
ranges a (suc n) m =
    let e : suc n + m ≡ suc (n + m) = omega arith in
    let at : a + suc n ≡ a + 1 + n = omega arith in
    rw (e, at) (ap (λ (xs : List ℕ). a ∷ xs) (ranges (a + 1) n m))

all_pass : (p : ℕ → Bool) (a n : ℕ) → ((i : ℕ) → a ≤ i → i < a + n → p i ≡ true) → filter p (range_with_len a n) ≡ range_with_len a n
all_pass p a zero pass = refl
all_pass p a (suc n) pass =
    let here = pass a (omega arith) (omega arith) in
    rw here (ap (λ (xs : List ℕ). a ∷ xs) (all_pass p (a + 1) n (λ i le lt. pass i (omega (arith, le)) (omega (arith, lt)))))

none_pass : (p : ℕ → Bool) (a n : ℕ) → ((i : ℕ) → a ≤ i → i < a + n → p i ≡ false) → filter p (range_with_len a n) ≡ []
none_pass p a zero pass = refl
none_pass p a (suc n) pass =
    let here = pass a (omega arith) (omega arith) in
    rw here (none_pass p (a + 1) n (λ i le lt. pass i (omega (arith, le)) (omega (arith, lt))))

bytes_of_range : (file : List ℕ) (a n : ℕ) → a + n ≤ length file → map (byte_of file) (range_with_len a n) ≡ take n (drop a file)
bytes_of_range file a zero le = refl
bytes_of_range file a (suc n) le =
    let here : a < length file = omega (arith, le) in
    let next : a + 1 ≡ suc a = omega arith in
    ap (λ (xs : List ℕ). byte_of file a ∷ xs) (bytes_of_range file (a + 1) n (omega (arith, le)))
    ∙ ap (λ (k : ℕ). byte_of file a ∷ take n (drop k file)) next
    ∙ ap (take (suc n)) (sym (drop-cons file a 0 here))

-- the bytes from an offset to the end at the offsets that the test lets through
abbrev pub kept_from : List ℕ → (ℕ → Bool) → ℕ → List ℕ
kept_from file p a = map (byte_of file) (filter p (range_with_len a (length file - a)))

split : (file : List ℕ) (p : ℕ → Bool) (a b : ℕ) → a ≤ b → b ≤ length file → kept_from file p a ≡ map (byte_of file) (filter p (range_with_len a (b - a))) ++ kept_from file p b
split file p a b ab be =
    let e : length file - a ≡ (b - a) + (length file - b) = omega arith in
    let at : a + (b - a) ≡ b = omega arith in
    ap (λ (n : ℕ). map (byte_of file) (filter p (range_with_len a n))) e
    ∙ ap (λ (xs : List ℕ). map (byte_of file) (filter p xs)) (ranges a (b - a) (length file - b))
    ∙ ap (λ (k : ℕ). map (byte_of file) (filter p (range_with_len a (b - a) ++ range_with_len k (length file - b)))) at
    ∙ ap (map (byte_of file)) (filter-append p (range_with_len a (b - a)) (range_with_len b (length file - b)))
    ∙ map-append (byte_of file) (filter p (range_with_len a (b - a))) (filter p (range_with_len b (length file - b)))

-- a range that is kept
pub kept_range : (file : List ℕ) (p : ℕ → Bool) (a b : ℕ) → a ≤ b → b ≤ length file → ((i : ℕ) → a ≤ i → i < b → p i ≡ true)
    → kept_from file p a ≡ slice_range file a b ++ kept_from file p b
kept_range file p a b ab be pass =
    let all = all_pass p a (b - a) (λ i le lt. pass i le (omega (arith, lt, ab))) in
    split file p a b ab be
    ∙ ap (λ (xs : List ℕ). map (byte_of file) xs ++ kept_from file p b) all
    ∙ ap (λ (xs : List ℕ). xs ++ kept_from file p b) (bytes_of_range file a (b - a) (omega (arith, ab, be)))

-- and one that is left out
pub left_range : (file : List ℕ) (p : ℕ → Bool) (a b : ℕ) → a ≤ b → b ≤ length file → ((i : ℕ) → a ≤ i → i < b → p i ≡ false)
    → kept_from file p a ≡ kept_from file p b
left_range file p a b ab be pass =
    let none = none_pass p a (b - a) (λ i le lt. pass i le (omega (arith, lt, ab))) in
    split file p a b ab be ∙ ap (λ (xs : List ℕ). map (byte_of file) xs ++ kept_from file p b) none

-- what is kept at the end of a file
pub kept_end : (file : List ℕ) (p : ℕ → Bool) (a : ℕ) → a ≡ length file → kept_from file p a ≡ []
kept_end file p a end =
    let none : length file - a ≡ 0 = omega (arith, end) in
    ap (λ (n : ℕ). map (byte_of file) (filter p (range_with_len a n))) none
