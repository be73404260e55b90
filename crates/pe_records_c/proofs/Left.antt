-- The items of a list from an index on: those that are left.
use Rattle.std.proofs.Common.{◌≡◌, ◌∙◌, ℕ, zero, suc, ◌+◌, ◌≤◌, List, [], ◌∷◌, length, drop, Some, refl, ap, arith}
use Rattle.std.specs.Prelude.{slice_get}

from_index : {X : Type 0} (xs : List X) (i : ℕ) (x : X) (rest : List X) → drop i xs ≡ x ∷ rest → (slice_get xs i ≡ Some x) × (drop (suc i) xs ≡ rest)
from_index [] zero x rest e = absurd cc
from_index [] (suc i) x rest e = absurd cc
from_index (y ∷ xs) zero x rest e = (cc, cc)
from_index (y ∷ xs) (suc i) x rest e = from_index xs i x rest e

-- the first of them is the item at the index, and the others are left from the next index on
pub first_left : {X : Type 0} (xs : List X) (i : ℕ) (x : X) (rest : List X) → drop i xs ≡ x ∷ rest → (slice_get xs i ≡ Some x) × (drop (i + 1) xs ≡ rest)
first_left xs i x rest e =
    let found = from_index xs i x rest e in
    let next : i + 1 ≡ suc i = omega arith in
    (found.0, ap (λ (n : ℕ). drop n xs) next ∙ found.1)

-- if none is left, the list has ended
pub none_left : {X : Type 0} (xs : List X) (i : ℕ) → drop i xs ≡ [] → length xs ≤ i
none_left [] i e = omega arith
none_left (y ∷ xs) zero e = absurd cc
none_left (y ∷ xs) (suc i) e = let shorter = none_left xs i e in omega (arith, shorter)

-- an item that is left is so much further on in the list
pub got_left : {X : Type 0} (xs : List X) (n i : ℕ) → slice_get (drop n xs) i ≡ slice_get xs (n + i)
got_left xs zero i = let here : 0 + i ≡ i = omega arith in rw here refl
got_left [] (suc n) i = refl
got_left (x ∷ xs) (suc n) i = let next : suc n + i ≡ suc (n + i) = omega arith in rw next (got_left xs n i)
