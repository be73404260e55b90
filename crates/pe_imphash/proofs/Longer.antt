-- Texts one after the other are as long as the first of them, or longer.
use Rattle.std.proofs.Common.{◌≡◌, ◌+◌, ◌<◌, ◌≤◌, false, sym, ℕ, zero, suc, List, [], ◌∷◌, length, get_or, map, take, arith, length-append}
use Rattle.std.specs.List.{flat_map}
use Rattle.std.specs.Prelude.{nat_le}
use Rattle.std.proofs.lemmas.Bool.{lt-leb}

-- those before the i-th, and that one
pub with_next : {A B : Type 0} (f : B → List ℕ) (view : A → B) (xs : List A) (i : ℕ) (d : A) → i < length xs
    → length (flat_map f (map view (take i xs))) + length (f (view (get_or xs i d))) ≤ length (flat_map f (map view xs))
with_next f view [] i d below = absurd (omega arith)
with_next f view (x ∷ xs) zero d below = omega (arith, length-append (f (view x)) (flat_map f (map view xs)))
with_next f view (x ∷ xs) (suc i) d below =
    omega (arith, with_next f view xs i d (omega arith), length-append (f (view x)) (flat_map f (map view (take i xs))), length-append (f (view x)) (flat_map f (map view xs)))

-- so if the i-th, of n bytes, is longer than what those before it leave of a bound, all of them pass it
pub passed : {A B : Type 0} (f : B → List ℕ) (view : A → B) (xs : List A) (i : ℕ) (d : A) (n left most : ℕ) → n ≡ length (f (view (get_or xs i d))) → i < length xs
    → left + length (flat_map f (map view (take i xs))) ≡ most → left < n → false ≡ nat_le (length (flat_map f (map view xs))) most
passed f view xs i d n left most is below leaves more =
    let all = with_next f view xs i d below in
    sym (lt-leb (length (flat_map f (map view xs))) most (omega (arith, all, is, leaves, more)))
