-- The name fields of a written object, read back.
use Rattle.std.proofs.Common.{◌≡◌, ℕ, zero, suc, ◌+◌, ◌-◌, ◌*◌, ◌^◌, ◌<◌, ◌≤◌, true, false, List, [], ◌∷◌, ◌++◌, length, drop, Option, Some, None, refl, ap, ◌∙◌, length-append, arith}
use Rattle.std.specs.Prelude.{map, replicate, ◌==◌, nat_lt}
use Rattle.std.specs.List.{list_all, AllByRecursion}
use Rattle.std.specs.Option.{unwrap_or}
use Rattle.std.specs.Int.Digits.{digits_of, number_from_digits_after, number_from_digits}
use Rattle.std.proofs.lemmas.Bool.{lt-ltb, le-leb, ne_eqb}
use Rattle.std.proofs.lemmas.List.{length-replicate, length-map, drop_at, append-nil}
use Rattle.std.proofs.lemmas.Int.Digits.{number_digits_of, all_below_base_digits_of, length-digits_of-le}
use Rattle.coff_read.specs.Names.{up_to_zero, decimal_digits, is_digit, decimal_value, is_number_field, name_offset, padded, begins_with_slash}
use Rattle.coff_object.specs.WriteFaults.{has_zero}
use Rattle.coff_read.proofs.StringPlaces.{zero_ended-behind}
use Rattle.coff_object.proofs.StringTable.{zero_ended-open}

-- a string without a zero byte, before any number of them
pub up_to_zero-filled : (text : List ℕ) (n : ℕ) → has_zero text ≡ false → up_to_zero (text ++ replicate n 0) ≡ text
up_to_zero-filled text zero none =
    let e : text ++ [] ≡ text = append-nil text in
    rw e (ap (λ (o : Option (List ℕ)). unwrap_or o text) (zero_ended-open text none))
up_to_zero-filled text (suc n) none = ap (λ (o : Option (List ℕ)). unwrap_or o (text ++ 0 ∷ replicate n 0)) (zero_ended-behind text (replicate n 0) none)

pub length-padded : (text : List ℕ) → length text ≤ 8 → length (padded text) ≡ 8
length-padded text le =
    let both : length (padded text) ≡ length text + length {A = ℕ} (replicate (8 - length text) 0) = length-append text (replicate (8 - length text) 0) in
    let fill : length {A = ℕ} (replicate (8 - length text) 0) ≡ 8 - length text = length-replicate (8 - length text) 0 in
    omega arith

-- a name that doesn't begin with `/` holds no offset
pub inline_offset : (name : List ℕ) → begins_with_slash name ≡ false → name_offset (padded name) ≡ None
inline_offset [] none = refl
inline_offset (b ∷ name) none = rw none refl

decimal_value-digits : (n : ℕ) (ds : List ℕ) → decimal_value n (map (λ d. 48 + d) ds) ≡ number_from_digits_after 10 n ds
decimal_value-digits n [] = refl
decimal_value-digits n (d ∷ ds) =
    let e : 48 + d - 48 ≡ d = omega arith in
    ap (λ (x : ℕ). decimal_value (n * 10 + x) (map (λ (y : ℕ). 48 + y) ds)) e ∙ decimal_value-digits (n * 10 + d) ds

pub decimal_value-is : (n : ℕ) → decimal_value 0 (decimal_digits n) ≡ n
decimal_value-is n = decimal_value-digits 0 (digits_of 10 n) ∙ number_digits_of 10 n (omega arith)

digits_are : (ds : List ℕ) → AllByRecursion (λ d. d < 10) ds → list_all is_digit (map (λ d. 48 + d) ds) ≡ true
digits_are [] all = refl
digits_are (d ∷ ds) all =
    let low = le-leb 48 (48 + d) (omega arith) in
    let small = all.0 in
    let high = le-leb (48 + d) 57 (omega arith) in
    rw (low, high) (digits_are ds all.1)

no_zero : (ds : List ℕ) → has_zero (map (λ d. 48 + d) ds) ≡ false
no_zero [] = refl
no_zero (d ∷ ds) =
    let e : (48 + d == 0) ≡ false = ne_eqb (48 + d) 0 (λ h. omega arith) in
    rw e (no_zero ds)

zeros_are : (n : ℕ) → list_all (λ byte. byte == 0) (replicate n 0) ≡ true
zeros_are zero = refl
zeros_are (suc n) = zeros_are n

pub length-decimal : (n : ℕ) → n < 10 ^ 7 → length (decimal_digits n) ≤ 7
length-decimal n lt =
    let same : length (decimal_digits n) ≡ length (digits_of 10 n) = length-map (digits_of 10 n) (λ d. 48 + d) in
    let few = length-digits_of-le 10 7 n (omega arith) lt in
    omega arith

some_digits : (ds : List ℕ) → 0 < number_from_digits 10 ds → 0 < length ds
some_digits [] lt = absurd (omega arith)
some_digits (d ∷ ds) lt = omega arith

-- `/` and the digits of an offset hold that offset
pub long_offset : (n : ℕ) → 0 < n → name_offset (padded (47 ∷ decimal_digits n)) ≡ Some n
long_offset n some =
    let digits : List ℕ = decimal_digits n in
    let fill : ℕ = 8 - length (47 ∷ digits) in
    let text : up_to_zero (digits ++ replicate fill 0) ≡ digits = up_to_zero-filled digits fill (no_zero (digits_of 10 n)) in
    let value = number_digits_of 10 n (omega arith) in
    let same : length (decimal_digits n) ≡ length (digits_of 10 n) = length-map (digits_of 10 n) (λ d. 48 + d) in
    let any = some_digits (digits_of 10 n) (omega arith) in
    let one : nat_lt 0 (length digits) ≡ true = lt-ltb 0 (length digits) (omega arith) in
    let all : list_all is_digit digits ≡ true = digits_are (digits_of 10 n) (all_below_base_digits_of 10 n (omega arith)) in
    let rest : list_all (λ byte. byte == 0) (drop (length digits) (digits ++ replicate fill 0)) ≡ true = rw (drop_at digits (replicate fill 0) (length digits) refl) (zeros_are fill) in
    let is : is_number_field (digits ++ replicate fill 0) ≡ true = rw text (rw (one, all, rest) refl) in
    rw (is, text) (ap Some (decimal_value-is n))
