-- The digits of a number of two to four.
use Rattle.std.proofs.Common.{◌≡◌, ◌∙◌, ℕ, ◌+◌, ◌/◌, ◌%◌, ◌<◌, ◌≤◌, List, [], ◌∷◌, ◌++◌, ap, arith}
use Rattle.std.specs.Prelude.{decimal}
use Rattle.std.proofs.lemmas.Fmt.{decimal_step, decimal_digit}

-- a last digit after those of a tenth
step : (n : ℕ) (front : List ℕ) → 10 ≤ n → n < 10000 → decimal (n / 10) ≡ front → decimal n ≡ front ++ (48 + n % 10) ∷ []
step n front le lt is = decimal_step n le (omega (arith, lt)) ∙ ap (λ (ds : List ℕ). ds ++ (48 + n % 10) ∷ []) is

pub two_digits : (n : ℕ) → 10 ≤ n → n < 100 → decimal n ≡ (48 + n / 10) ∷ (48 + n % 10) ∷ []
two_digits n le lt = step n ((48 + n / 10) ∷ []) le (omega (arith, lt)) (decimal_digit (n / 10) (omega (arith, lt)))

pub three_digits : (n : ℕ) → 100 ≤ n → n < 1000 → decimal n ≡ (48 + n / 100 % 10) ∷ (48 + n / 10 % 10) ∷ (48 + n % 10) ∷ []
three_digits n le lt =
    let hundreds : n / 10 / 10 ≡ n / 100 % 10 = omega (arith, le, lt) in
    step n ((48 + n / 100 % 10) ∷ (48 + n / 10 % 10) ∷ []) (omega (arith, le)) (omega (arith, lt))
    (two_digits (n / 10) (omega (arith, le)) (omega (arith, lt)) ∙ ap (λ (h : ℕ). (48 + h) ∷ (48 + n / 10 % 10) ∷ []) hundreds)

pub four_digits : (n : ℕ) → 1000 ≤ n → n < 10000 → decimal n ≡ (48 + n / 1000) ∷ (48 + n / 100 % 10) ∷ (48 + n / 10 % 10) ∷ (48 + n % 10) ∷ []
four_digits n le lt =
    let thousands : n / 10 / 100 % 10 ≡ n / 1000 = omega (arith, le, lt) in
    let hundreds : n / 10 / 10 % 10 ≡ n / 100 % 10 = omega (arith, le, lt) in
    step n ((48 + n / 1000) ∷ (48 + n / 100 % 10) ∷ (48 + n / 10 % 10) ∷ []) (omega (arith, le)) lt
    (three_digits (n / 10) (omega (arith, le)) (omega (arith, lt))
    ∙ ap (λ (t : ℕ). (48 + t) ∷ (48 + n / 10 / 10 % 10) ∷ (48 + n / 10 % 10) ∷ []) thousands
    ∙ ap (λ (h : ℕ). (48 + n / 1000) ∷ (48 + h) ∷ (48 + n / 10 % 10) ∷ []) hundreds)
