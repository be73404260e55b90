-- A block has room for what was asked, and is made of units of 16 bytes.
use Rattle.std.proofs.Common.{◌≡◌, ℕ, suc, ◌+◌, ◌-◌, ◌%◌, ◌^◌, ◌<◌, ◌≤◌, max, ⊎_elim, sym, ap, ◌∙◌, arith}
use Rattle.std.proofs.lemmas.Nat.{pow_pos, pow-add, pow_below, leading_top}
use Rattle.std.proofs.lemmas.Bool.{cases_lt}
use lib.Count.{count_leading_zeros}
use Rattle.page_heap.specs.Class.{class_of, class_size, block_size}

-- a number of more than 3 digits, and how many it has
digits : (x : ℕ) → 15 ≤ x → x < 2 ^ 64 → (j : ℕ) × (count_leading_zeros 64 x + j ≡ 64) × (4 ≤ j) × (x < 2 ^ j)
digits x large small =
    let t = leading_top 64 x (omega arith) small in
    (suc t.0, t.1, ⊎_elim (λ few. let below = pow_below (suc t.0) 4 few in absurd (omega (arith, t.3))) (λ many. many) (cases_lt (suc t.0) 4), t.3)

pub few_zeros : (x : ℕ) → 15 ≤ x → x < 2 ^ 64 → count_leading_zeros 64 x ≤ 60
few_zeros x large small = let t = digits x large small in omega (arith, t.1, t.2)

pub fits : (n : ℕ) → n < 2 ^ 63 → n ≤ block_size n
fits n small =
    let x = max n 16 - 1 in
    let t = digits x (omega arith) (omega arith) in
    let k = t.0 - 4 in
    let is : class_of n ≡ k = omega (arith, t.1, t.2) in
    let power : 2 ^ t.0 ≡ block_size n = ap (λ (i : ℕ). 2 ^ i) (omega (arith, t.2)) ∙ pow-add 2 4 k ∙ ap class_size (sym is) in
    omega (arith, t.3, power)

pub whole : (k : ℕ) → class_size k % 16 ≡ 0
whole k = omega arith

pub least : (k : ℕ) → 16 ≤ class_size k
least k = omega (arith, pow_pos k)
