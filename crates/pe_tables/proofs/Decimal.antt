-- A number grows with each digit, so that digits write no ordinal once their number is too great.
use Rattle.std.proofs.Common.{◌≡◌, ℕ, ◌+◌, ◌-◌, ◌*◌, ◌<◌, ◌≤◌, Bool, true, false, List, [], ◌∷◌, length, drop, get_or, None, refl, ap, arith}
use Rattle.std.specs.Prelude.{nat_le, nat_lt, ◌&&◌}
use Rattle.std.specs.List.{list_all}
use Rattle.std.proofs.lemmas.Bool.{lt-leb}
use Rattle.std.proofs.lemmas.List.{drop_more}
use Rattle.pe_tables.specs.Forwarder.{is_digit, decimal_value, ordinal_key}

decimal_grows : (n : ℕ) (digits : List ℕ) → n ≤ decimal_value n digits
decimal_grows n [] = omega arith
decimal_grows n (digit ∷ digits) = let more = decimal_grows (n * 10 + (digit - 48)) digits in omega arith

never : (a b : Bool) → (a && (b && false)) ≡ false
never true true = refl
never true false = refl
never false true = refl
never false false = refl

too_great : (digits : List ℕ) → 65535 < decimal_value 0 digits → ordinal_key digits ≡ None
too_great digits lt =
    let e : nat_le (decimal_value 0 digits) 65535 ≡ false = lt-leb _ _ lt in
    let none : (nat_lt 0 (length digits) && (list_all is_digit digits && nat_le (decimal_value 0 digits) 65535)) ≡ false = rw e (never (nat_lt 0 (length digits)) (list_all is_digit digits)) in
    rw none refl

-- the number of the digits before index k and of the one there is too great
pub no_ordinal : (digits : List ℕ) (k n : ℕ) → k < length digits → decimal_value n (drop k digits) ≡ decimal_value 0 digits → 65535 < n * 10 + (get_or digits k 0 - 48) → ordinal_key digits ≡ None
no_ordinal digits k n lt same great =
    let more : decimal_value n (drop k digits) ≡ decimal_value (n * 10 + (get_or digits k 0 - 48)) (drop (k + 1) digits) = ap (decimal_value n) (drop_more digits k 0 lt) in
    let grows = decimal_grows (n * 10 + (get_or digits k 0 - 48)) (drop (k + 1) digits) in
    too_great digits (omega arith)
