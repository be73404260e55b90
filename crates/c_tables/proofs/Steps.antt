-- One more row is filled with an item that is read.
use Rattle.std.proofs.Common.{◌≡◌, ◌≢◌, ℕ, ◌<◌, ◌+◌, List, length, get_or, set, Some, arith, below_more, get_or-set_other, get_or-set_same}
use Rattle.std.proofs.lemmas.Option.{get_or_from_slice_get}
use Rattle.std.specs.Prelude.{slice_get}

pub told_step : {T R : Type 0} (tells : T → R → Type 0) (table : List T) (rows : List R) (i : ℕ) (x : T) (r : R) → i < length rows → slice_get table i ≡ Some x → tells x r
    → ((item : T) (q : R) (k : ℕ) → k < i → tells (get_or table k item) (get_or rows k q))
    → (item : T) (q : R) (k : ℕ) → k < i + 1 → tells (get_or table k item) (get_or (set rows i r) k q)
told_step tells table rows i x r under is here before item q =
    below_more _ _ (λ k h. let other : k ≢ i = omega (arith, h) in rw get_or-set_other (before item q k h))
    (rw get_or-set_same (rw (get_or_from_slice_get table i x item is) here))
