-- Rows that are filled with the items of a table, one after the other.
use Rattle.std.proofs.Common.{◌≡◌, ◌∙◌, ℕ, zero, suc, ◌+◌, ◌≤◌, List, [], ◌∷◌, ◌++◌, length, map, take, set, Some, refl, sym, ap, arith}
use Rattle.std.proofs.lemmas.List.{map-set, take_all}
use Rattle.std.proofs.lemmas.Option.{same_Some}
use Rattle.std.specs.Prelude.{slice_get}
use Rattle.pe_records_c.specs.Rows.{filled}

-- with none they are unchanged
pub filled_none : {T R : Type 0} (row : T → R) (old : List R) → filled row [] old ≡ old
filled_none row [] = refl
filled_none row (o ∷ old) = refl

more : {T R : Type 0} (row : T → R) (table : List T) (old : List R) (i : ℕ) (x : T) → slice_get table i ≡ Some x → set (filled row (take i table) old) i (row x) ≡ filled row (take (suc i) table) old
more row [] old i x is = absurd cc is
more row (y ∷ table) [] zero x is = refl
more row (y ∷ table) (o ∷ old) zero x is =
    let same = same_Some y x is in
    ap (λ z. row z ∷ old) (sym same) ∙ ap (λ (rest : List _). row y ∷ rest) (sym (filled_none row old))
more row (y ∷ table) [] (suc i) x is = refl
more row (y ∷ table) (o ∷ old) (suc i) x is = ap (λ (rest : List _). row y ∷ rest) (more row table old i x is)

-- with one more
pub filled_more : {T R : Type 0} (row : T → R) (table : List T) (old : List R) (i : ℕ) (x : T) → slice_get table i ≡ Some x → set (filled row (take i table) old) i (row x) ≡ filled row (take (i + 1) table) old
filled_more row table old i x is = let next : suc i ≡ i + 1 = omega arith in more row table old i x is ∙ ap (λ (n : ℕ). filled row (take n table) old) next

-- a row that is made of one more item, by what rows show
pub row_stored : {T R W : Type 0} (view : R → W) (row : T → W) (table : List T) (old : List W) (rows new : List R) (i : ℕ) (x : T) (r : R) → slice_get table i ≡ Some x
    → map view rows ≡ filled row (take i table) old → view r ≡ row x → new ≡ set rows i r → map view new ≡ filled row (take (i + 1) table) old
row_stored view row table old rows new i x r is before here stores =
    ap (map view) stores ∙ map-set view rows i r ∙ ap (λ (v : List _). set v i (view r)) before ∙ ap (set (filled row (take i table) old) i) here ∙ filled_more row table old i x is

-- with all
pub filled_all : {T R : Type 0} (row : T → R) (table : List T) (old : List R) (i : ℕ) → length table ≤ i → filled row (take i table) old ≡ filled row table old
filled_all row table old i end = ap (λ (t : List _). filled row t old) (take_all i table end)

-- an item after the others
pub filled_behind : {T R : Type 0} (row : T → R) (table : List T) (old : List R) (x : T) → set (filled row table old) (length table) (row x) ≡ filled row (table ++ x ∷ []) old
filled_behind row [] [] x = refl
filled_behind row [] (o ∷ old) x = ap (λ (rest : List _). row x ∷ rest) (sym (filled_none row old))
filled_behind row (y ∷ table) [] x = refl
filled_behind row (y ∷ table) (o ∷ old) x = ap (λ (rest : List _). row y ∷ rest) (filled_behind row table old x)

-- a row that there is not
pub set_past : {R : Type 0} (rows : List R) (i : ℕ) (r : R) → length rows ≤ i → set rows i r ≡ rows
set_past [] i r past = refl
set_past (q ∷ rows) zero r past = absurd (omega (arith, past))
set_past (q ∷ rows) (suc i) r past = ap (λ (rest : List _). q ∷ rest) (set_past rows i r (omega (arith, past)))
