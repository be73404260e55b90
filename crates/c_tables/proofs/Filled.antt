-- Rows that are filled with as many items of a table as fit.
use Rattle.std.proofs.Common.{◌≡◌, ℕ, zero, suc, ◌<◌, ◌≤◌, List, [], ◌∷◌, length, take, get_or, Some, refl, ap, arith, min}
use Rattle.std.specs.Prelude.{slice_get}
use Rattle.pe_records_c.specs.Rows.{filled}

-- an item in a list is there
pub got : {X : Type 0} (xs : List X) (i : ℕ) (d : X) → i < length xs → slice_get xs i ≡ Some (get_or xs i d)
got [] i d under = absurd (omega (arith, under))
got (x ∷ xs) zero d under = refl
got (x ∷ xs) (suc i) d under = got xs i d (omega (arith, under))

-- rows that have as many items as fit have all of them, as far as they fit
pub filled_most : {T R : Type 0} (row : T → R) (table : List T) (old : List R) (n : ℕ) → min (length old) (length table) ≤ n → filled row (take n table) old ≡ filled row table old
filled_most row [] old zero most = refl
filled_most row [] old (suc n) most = refl
filled_most row (y ∷ table) [] zero most = refl
filled_most row (y ∷ table) [] (suc n) most = refl
filled_most row (y ∷ table) (o ∷ old) zero most = absurd (omega (arith, most))
filled_most row (y ∷ table) (o ∷ old) (suc n) most = ap (λ (rest : List _). row y ∷ rest) (filled_most row table old n (omega (arith, most)))
