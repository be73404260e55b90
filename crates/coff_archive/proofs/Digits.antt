-- Digits of a field.
use Rattle.std.proofs.Common.{◌≡◌, ℕ, suc, ◌+◌, ◌-◌, ◌*◌, ◌^◌, ◌<◌, ◌≤◌, true, List, [], ◌∷◌, length, drop, get_or, refl, ap, arith}
use Rattle.std.specs.Prelude.{map, nat_le, nat_lt}
use Rattle.std.specs.List.{list_all}
use Rattle.std.specs.Int.Digits.{number_from_digits_after, AllBelowBase}
use Rattle.std.proofs.Math.Nat.{pow-le-pow_right, pow-le-pow_left, mul-le-mul_left}
use Rattle.std.proofs.Math.Seq.{drop-cons}
use Rattle.std.proofs.lemmas.Bool.{and_parts, leb-true, ltb-true}
use Rattle.std.proofs.lemmas.Int.Digits.{number_lt}
use Rattle.std.proofs.lemmas.List.{length-map}
use Rattle.coff_archive.specs.Bytes.{is_digit, digits_value}

-- a digit more makes no smaller number
no_smaller : (radix n : ℕ) → 1 ≤ radix → n ≤ n * radix
no_smaller radix n some = let more : n * 1 ≤ n * radix = mul-le-mul_left n some in omega (arith, more)

digits-ge : (radix n : ℕ) (digits : List ℕ) → 1 ≤ radix → n ≤ digits_value radix n digits
digits-ge radix n [] some = omega arith
digits-ge radix n (d ∷ digits) some =
    let later = digits-ge radix (n * radix + (d - 48)) digits some in
    let more = no_smaller radix n some in
    omega (arith, later, more)

-- one digit more is no more than all of them
pub next_digit : (radix n i whole : ℕ) (digits : List ℕ) → 1 ≤ radix → i < length digits → digits_value radix n (drop i digits) ≡ whole → n * radix + (get_or digits i 0 - 48) ≤ whole
next_digit radix n i whole digits some lt is =
    let later = digits-ge radix (n * radix + (get_or digits i 0 - 48)) (drop (suc i) digits) some in
    let same = ap (digits_value radix n) (drop-cons digits i 0 lt) in
    omega (arith, later, same, is)

digits_number : (radix n : ℕ) (digits : List ℕ) → digits_value radix n digits ≡ number_from_digits_after radix n (map (λ d. d - 48) digits)
digits_number radix n [] = refl
digits_number radix n (d ∷ digits) = digits_number radix (n * radix + (d - 48)) digits

below_radix : (radix : ℕ) (digits : List ℕ) → list_all (is_digit radix) digits ≡ true → AllBelowBase radix (map (λ d. d - 48) digits)
below_radix radix [] all = tt
below_radix radix (d ∷ digits) all =
    let parts = and_parts (is_digit radix d) (list_all (is_digit radix) digits) all in
    let ends = and_parts (nat_le 48 d) (nat_lt d (48 + radix)) parts.0 in
    let low = leb-true 48 d ends.0 in
    let high = ltb-true d (48 + radix) ends.1 in
    (omega (arith, low, high), below_radix radix digits parts.1)

-- sixteen digits write a number under 2^64
pub sixteen_digits : (radix : ℕ) (digits : List ℕ) → radix ≤ 10 → length digits ≤ 16 → list_all (is_digit radix) digits ≡ true → digits_value radix 0 digits < 2 ^ 64
sixteen_digits radix digits ten few all =
    let lt = number_lt radix (map (λ d. d - 48) digits) (below_radix radix digits all) in
    let len : length (map (λ (d : ℕ). d - 48) digits) ≡ length digits = length-map digits (λ d. d - 48) in
    let by_ten : radix ^ length digits ≤ 10 ^ length digits = pow-le-pow_left ten (length digits) in
    let most : 10 ^ length digits ≤ 10 ^ 16 = pow-le-pow_right (omega arith) few in
    let same : radix ^ length (map (λ (d : ℕ). d - 48) digits) ≡ radix ^ length digits = ap (λ (n : ℕ). radix ^ n) len in
    let number = digits_number radix 0 digits in
    omega arith
