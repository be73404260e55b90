-- Strings that are cut to the room that there is.
use Rattle.std.proofs.Common.{ℕ, zero, suc, ◌≡◌, ◌+◌, ◌-◌, ◌≤◌, List, [], ◌∷◌, ◌++◌, length, take, refl, arith, sym, ◌∙◌, ap}
use Rattle.std.specs.Prelude.{min}
use Rattle.std.proofs.lemmas.List.{take_min}
use Rattle.std.proofs.Math.Seq.{take-append-add}

-- to add to a cut string and cut it again is to add to the whole string and cut it
pub cut_again : (n : ℕ) (xs ys : List ℕ) → take n (take n xs ++ ys) ≡ take n (xs ++ ys)
cut_again zero xs ys = refl
cut_again (suc n) [] ys = refl
cut_again (suc n) (x ∷ xs) ys = ap (λ (zs : List ℕ). x ∷ zs) (cut_again n xs ys)

behind : (m count : ℕ) (xs ys : List ℕ) → count ≡ min m (length ys) → xs ++ take count ys ≡ take (length xs + m) (xs ++ ys)
behind m count xs ys e = rw (e, take_min m ys) (sym (take-append-add xs ys m))

-- as much is added as there is room for
pub filled : (n count : ℕ) (xs ys : List ℕ) → length xs ≤ n → count ≡ min (length ys) (n - length xs) → xs ++ take count ys ≡ take n (xs ++ ys)
filled n count xs ys within e =
    let all : length xs + (n - length xs) ≡ n = omega arith in
    let same : count ≡ min (n - length xs) (length ys) = omega (arith, e) in
    rw all at (behind (n - length xs) count xs ys same)

-- bytes are added to a string that was cut
pub adds : (n : ℕ) {before now : List ℕ} (xs ys : List ℕ) → before ≡ take n xs → now ≡ take n (before ++ ys) → now ≡ take n (xs ++ ys)
adds n xs ys e added = added ∙ rw e (cut_again n xs ys)
