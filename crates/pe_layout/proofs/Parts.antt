-- Bytes given by a function of their place, as parts of a file and as zeros.
use Rattle.std.proofs.Common.{◌≡◌, ℕ, zero, suc, ◌+◌, ◌<◌, ◌≤◌, List, [], ◌∷◌, ◌++◌, length, get_or, take, drop, Option, Some, None, refl, ap, ◌∙◌, arith}
use Rattle.std.specs.Prelude.{map, replicate, option_map}
use Rattle.std.specs.List.{range_with_len}
use Rattle.std.proofs.lemmas.List.{drop_more}
use Rattle.pe_view.specs.Text.{zero_ended}

-- bytes that are a part of the file
pub map_is_part : (g : ℕ → ℕ) (file : List ℕ) (r o n : ℕ) → (0 < n → o + n ≤ length file) → ((k : ℕ) → k < n → g (r + k) ≡ get_or file (o + k) 0) → map g (range_with_len r n) ≡ take n (drop o file)
map_is_part g file r o zero fits same = refl
map_is_part g file r o (suc n) held same =
    let fits : o + suc n ≤ length file = held (omega arith) in
    let here : g r ≡ get_or file o 0 = ap g (omega arith) ∙ same 0 (omega arith) ∙ ap (λ (k : ℕ). get_or file k 0) (omega arith) in
    let rest : map g (range_with_len (r + 1) n) ≡ take n (drop (o + 1) file) = map_is_part g file (r + 1) (o + 1) n (λ _. omega arith) (λ k lt. ap g (omega arith) ∙ same (suc k) (omega arith) ∙ ap (λ (j : ℕ). get_or file j 0) (omega arith)) in
    rw (drop_more file o 0 (omega arith), here, rest) refl

pub map_is_zeros : (g : ℕ → ℕ) (r n : ℕ) → ((k : ℕ) → k < n → g (r + k) ≡ 0) → map g (range_with_len r n) ≡ replicate n 0
map_is_zeros g r zero same = refl
map_is_zeros g r (suc n) same =
    let here : g r ≡ 0 = ap g (omega arith) ∙ same 0 (omega arith) in
    rw (here, map_is_zeros g (r + 1) n (λ k lt. ap g (omega arith) ∙ same (suc k) (omega arith))) refl

pub map_split : (g : ℕ → ℕ) (r m n : ℕ) → map g (range_with_len r (m + n)) ≡ map g (range_with_len r m) ++ map g (range_with_len (r + m) n)
map_split g r zero n = let e : r ≡ r + 0 = omega arith in let z : 0 + n ≡ n = omega arith in rw z (ap (λ (a : ℕ). map g (range_with_len a n)) e)
map_split g r (suc m) n =
    let k : suc m + n ≡ suc (m + n) = omega arith in
    let e : r + 1 + m ≡ r + suc m = omega arith in
    rw (k, map_split g (r + 1) m n, e) refl

-- a string that may run into zeros
abbrev pub with_zeros : Option (List ℕ) → List ℕ → ℕ → Option (List ℕ)
with_zeros (Some text) bytes n = Some text
with_zeros None bytes zero = None
with_zeros None bytes (suc n) = Some bytes

with_zeros-cons : (b : ℕ) (o : Option (List ℕ)) (bytes : List ℕ) (n : ℕ) → option_map (λ text. b ∷ text) (with_zeros o bytes n) ≡ with_zeros (option_map (λ text. b ∷ text) o) (b ∷ bytes) n
with_zeros-cons b (Some text) bytes n = refl
with_zeros-cons b None bytes zero = refl
with_zeros-cons b None bytes (suc n) = refl

pub zero_ended-zeros : (bytes : List ℕ) (n : ℕ) → zero_ended (bytes ++ replicate n 0) ≡ with_zeros (zero_ended bytes) bytes n
zero_ended-zeros [] zero = refl
zero_ended-zeros [] (suc n) = refl
zero_ended-zeros (zero ∷ bytes) n = refl
zero_ended-zeros (suc b ∷ bytes) n = ap (option_map (λ text. suc b ∷ text)) (zero_ended-zeros bytes n) ∙ with_zeros-cons (suc b) (zero_ended bytes) bytes n
