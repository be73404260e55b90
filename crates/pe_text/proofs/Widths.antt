-- The digits of a number, and how many it needs.
use Rattle.std.proofs.Common.{ℕ, zero, suc, ◌≡◌, ◌+◌, ◌*◌, ◌/◌, ◌%◌, ◌^◌, ◌-◌, ◌<◌, ◌≤◌, List, length, drop, get_or, refl, arith, sym, ◌∙◌, ap, Bool, inl, inr}
use Rattle.std.specs.Prelude.{◌==◌, codes}
use Rattle.std.specs.List.{range_with_len}
use Rattle.std.proofs.lemmas.List.FromFn.{get_or-range_with_len}
use Rattle.std.proofs.lemmas.List.Folds.{list_all_at}
use Rattle.std.proofs.Math.ListN.{set}
use Rattle.std.proofs.lemmas.Grind.{drop-set_at}
use Rattle.std.proofs.Math.Nat.{pow-succ', pow-le-pow_right}
use Rattle.std.proofs.lemmas.Nat.{pow-add}
use Rattle.std.proofs.lemmas.Bool.{cases_Bool, cases_lt, eqb-true, lt-ltb, le-ltb}
use Rattle.pe_text.specs.Text.{glyph, hex, width_from}

-- a shift by four bits for each digit
shift-digits : (k : ℕ) → 2 ^ (4 * k) ≡ 16 ^ k
shift-digits zero = refl
shift-digits (suc k) = let e : 4 * suc k ≡ 4 + 4 * k = omega arith in rw (e, pow-add 2 4 (4 * k), shift-digits k, pow-succ' 16 k) refl

-- the least width that has all digits of a number
width_is : (more k w n : ℕ) → k ≤ w → w ≤ k + more → ((j : ℕ) → j < w → 16 ^ j ≤ n) → n < 16 ^ w → width_from more k n ≡ w
unfolding width_from
width_is zero k w n low high least holds = omega arith
width_is (suc more) k w n low high least holds = elim (cases_lt k w) [
  | inl below ↦ rw (le-ltb n (16 ^ k) (least k below)) (width_is more (k + 1) w n (omega arith) (omega arith) least holds)
  | inr there ↦ (let e : k ≡ w = omega arith in rw (lt-ltb n (16 ^ k) (rw (sym e) at holds)) e)
]

-- the width of a number with this highest bit
pub width_of_bit : (bit n : ℕ) → bit < 64 → 2 ^ bit ≤ n → n < 2 * 2 ^ bit → width_from 15 1 n ≡ bit / 4 + 1
width_of_bit bit n small le lt =
    let least : (j : ℕ) → j < bit / 4 + 1 → 16 ^ j ≤ n = λ j below. rw (sym (shift-digits j)) (omega (arith, le, pow-le-pow_right {n = 2} (omega arith) {i = 4 * j} {j = bit} (omega arith))) in
    let more : 2 * 2 ^ bit ≤ 2 ^ (4 * (bit / 4 + 1)) = omega (arith, pow-add 2 1 bit, pow-le-pow_right {n = 2} (omega arith) {i = 1 + bit} {j = 4 * (bit / 4 + 1)} (omega arith)) in
    let holds : n < 16 ^ (bit / 4 + 1) = rw (sym (shift-digits (bit / 4 + 1))) (omega (arith, lt, more)) in
    width_is 15 1 (bit / 4 + 1) n (omega arith) (omega arith) least holds

-- the width of zero
pub width_of_zero : width_from 15 1 0 ≡ 1
unfolding width_from
width_of_zero = refl

-- one more digit comes before those at the end
pub hex-before : (k n digit : ℕ) (digits : List ℕ) → k < 16 → length digits ≡ 16 → digit ≡ glyph (n / 2 ^ (4 * k) % 16) → drop (16 - k) digits ≡ hex k n
    → drop (16 - (k + 1)) (set digits (15 - k) digit) ≡ hex (k + 1) n
unfolding hex
hex-before k n digit digits below long d e =
    let one : 16 - (k + 1) ≡ 15 - k = omega arith in
    let next : 15 - k + 1 ≡ 16 - k = omega arith in
    let more : k + 1 ≡ suc k = omega arith in
    drop-set_at digits (15 - k) (16 - (k + 1)) digit one (omega arith)
    ∙ rw (next, e, d, shift-digits k) (ap (λ (j : ℕ). hex j n) (sym more))

-- the list of digits has each digit at its index
is_listed : ℕ → Bool
is_listed d = get_or (codes "0123456789abcdef") d 0 == glyph d

pub glyphs : (d : ℕ) → d < 16 → get_or (codes "0123456789abcdef") d 0 ≡ glyph d
unfolding is_listed
glyphs d below =
    let at : get_or (range_with_len 0 16) d 0 ≡ d = get_or-range_with_len 0 16 d 0 below ∙ omega arith in
    elim (cases_Bool (is_listed (get_or (range_with_len 0 16) d 0))) [
      | inl listed ↦ eqb-true _ _ (rw at at listed)
      | inr other ↦ (let none = list_all_at is_listed (range_with_len 0 16) d 0 below other in absurd cc)
    ]
