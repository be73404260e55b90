-- Bytes without the zero bytes at their end.
use Rattle.std.proofs.Common.{◌≡◌, ◌∙◌, ◌==◌, ℕ, ◌+◌, ◌<◌, ◌≤◌, zero, suc, add-one, Bool, true, false, List, [], ◌∷◌, ◌++◌, length, take, get_or, refl, ap, arith}
use Rattle.std.specs.Prelude.{if◌then◌else◌}
use Rattle.std.proofs.lemmas.Bool.{eqb-true}
use Rattle.pe_json.specs.Sections.{kept, without_zeros}

-- a zero byte at the end is left out
pub zero_left : (xs : List ℕ) → without_zeros (xs ++ 0 ∷ []) ≡ without_zeros xs
zero_left [] = refl
zero_left (x ∷ xs) = ap (kept x) (zero_left xs)

kept_more : (x y : ℕ) (xs : List ℕ) → kept x (xs ++ y ∷ []) ≡ x ∷ (xs ++ y ∷ [])
kept_more x y [] = refl
kept_more x y (z ∷ xs) = refl

-- any other is kept, with all before it
pub other_kept : (xs : List ℕ) (y : ℕ) → (y == 0) ≡ false → without_zeros (xs ++ y ∷ []) ≡ xs ++ y ∷ []
other_kept [] y other = rw other refl
other_kept (x ∷ xs) y other = ap (kept x) (other_kept xs y other) ∙ kept_more x y xs

take_suc : (xs : List ℕ) (i d : ℕ) → i < length xs → take (suc i) xs ≡ take i xs ++ get_or xs i d ∷ []
take_suc [] i d below = absurd (omega arith)
take_suc (x ∷ xs) zero d below = refl
take_suc (x ∷ xs) (suc i) d below = ap (λ (ys : List ℕ). x ∷ ys) (take_suc xs i d (omega arith))

take_more : (xs : List ℕ) (i d : ℕ) → i < length xs → take (i + 1) xs ≡ take i xs ++ get_or xs i d ∷ []
take_more xs i d below = rw add-one (take_suc xs i d below)

more_by : (b : Bool) (xs : List ℕ) (i d len next : ℕ) → (get_or xs i d == 0) ≡ b → i < length xs → next ≡ (if b then len else i + 1) → len ≤ i → without_zeros (take i xs) ≡ take len xs
    → (next ≤ i + 1) × (without_zeros (take (i + 1) xs) ≡ take next xs)
more_by true xs i d len next zero_byte below is within e =
    let zero_is : get_or xs i d ≡ 0 = eqb-true _ _ zero_byte in
    (omega (arith, is, within), rw (is, take_more xs i d below, zero_is, zero_left) e)
more_by false xs i d len next other below is within e = (omega (arith, is), rw (is, take_more xs i d below) (other_kept (take i xs) (get_or xs i d) other))

-- one more byte is looked at
pub len_more : (xs : List ℕ) (i d len next : ℕ) → i < length xs → next ≡ (if get_or xs i d == 0 then len else i + 1) → len ≤ i → without_zeros (take i xs) ≡ take len xs
    → (next ≤ i + 1) × (without_zeros (take (i + 1) xs) ≡ take next xs)
len_more xs i d len next below is within e = more_by _ xs i d len next refl below is within e
