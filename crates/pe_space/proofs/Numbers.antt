-- A number depends only on its bytes.
use Rattle.std.proofs.Common.{◌≡◌, ℕ, zero, suc, ◌+◌, ◌<◌, List, get_or, refl, arith}
use Rattle.pe_space.specs.Number.{number_in}

pub same_number : (xs ys : List ℕ) (a b w : ℕ) → ((k : ℕ) → k < w → get_or xs (a + k) 0 ≡ get_or ys (b + k) 0) → number_in xs a w ≡ number_in ys b w
same_number xs ys a b zero h = refl
same_number xs ys a b (suc w) h =
    let first : get_or xs a 0 ≡ get_or ys b 0 = (let ea : a + 0 ≡ a = omega arith in let eb : b + 0 ≡ b = omega arith in rw (ea, eb) at (h 0 (omega arith))) in
    let rest = same_number xs ys (a + 1) (b + 1) w (λ k lt. (let ea : a + 1 + k ≡ a + suc k = omega arith in let eb : b + 1 + k ≡ b + suc k = omega arith in rw (ea, eb) (h (suc k) (omega arith)))) in
    rw (first, rest) refl
