-- Functions that agree at each argument of a range agree on the range.
use Rattle.std.proofs.Common.{◌≡◌, ℕ, zero, suc, ◌+◌, ◌<◌, ◌≤◌, ◌∷◌, refl, ap₂, arith}
use Rattle.std.specs.Prelude.{map}
use Rattle.std.specs.List.{range_with_len}

pub map_agrees : {A : Type 0} (p q : ℕ → A) (start n : ℕ) → ((k : ℕ) → start ≤ k → k < start + n → p k ≡ q k) → map p (range_with_len start n) ≡ map q (range_with_len start n)
map_agrees p q start zero same = refl
map_agrees p q start (suc n) same =
    ap₂ (λ x y. x ∷ y) (same start (omega arith) (omega arith)) (map_agrees p q (start + 1) n (λ k le lt. same k (omega arith) (omega arith)))
