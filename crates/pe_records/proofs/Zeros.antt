-- The first 0 among numbers, one after the other.
use Rattle.std.proofs.Common.{◌≡◌, ◌∙◌, ℕ, suc, ◌+◌, ◌-◌, ◌<◌, ◌≢◌, Bool, cond, ap, arith}
use Rattle.std.proofs.lemmas.Bool.{eq-eqb, ne_eqb}
use Rattle.pe_records.specs.Callbacks.{first_zero}

-- where there is no 0 at a number, look from the next on
pub next_zero : (f : ℕ → ℕ) (k n : ℕ) → k < n → f k ≢ 0 → first_zero f k (n - k) ≡ first_zero f (k + 1) (n - (k + 1))
next_zero f k n lt ne =
    let left : n - k ≡ suc (n - (k + 1)) = omega arith in
    ap (first_zero f k) left ∙ ap (λ (b : Bool). cond b k (first_zero f (k + 1) (n - (k + 1)))) (ne_eqb (f k) 0 ne)

-- where there is one, that is it
pub this_zero : (f : ℕ → ℕ) (k n : ℕ) → k < n → f k ≡ 0 → first_zero f k (n - k) ≡ k
this_zero f k n lt is =
    let left : n - k ≡ suc (n - (k + 1)) = omega arith in
    ap (first_zero f k) left ∙ ap (λ (b : Bool). cond b k (first_zero f (k + 1) (n - (k + 1)))) (eq-eqb (f k) 0 is)

-- where no number is left, there is none
pub no_zero : (f : ℕ → ℕ) (n : ℕ) → first_zero f n (n - n) ≡ n
no_zero f n =
    let none : n - n ≡ 0 = omega arith in
    ap (first_zero f n) none
