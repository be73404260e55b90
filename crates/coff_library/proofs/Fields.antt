-- The fields of a header, read back.
use Rattle.std.proofs.Common.{◌≡◌, ◌∙◌, ℕ, zero, suc, ◌+◌, ◌-◌, ◌*◌, ◌^◌, ◌<◌, ◌≤◌, true, false, List, [], ◌∷◌, ◌++◌, length, drop, Option, Some, None, refl, sym, ap, arith, inl, inr, length-append}
use Rattle.std.specs.Prelude.{map, replicate, ◌==◌, nat_lt, option_map}
use Rattle.std.specs.Fmt.{decimal}
use Rattle.std.specs.List.{list_all, list_any, AllByRecursion}
use Rattle.std.specs.Option.{unwrap_or}
use Rattle.std.specs.Int.Digits.{digits_of, number_from_digits, number_from_digits_after}
use Rattle.std.proofs.lemmas.Bool.{cases_lt, or_parts, lt-ltb, le-leb, ne_eqb}
use Rattle.std.proofs.lemmas.Fmt.{decimal-digits_of, decimal_digit, length-decimal-le}
use Rattle.std.proofs.lemmas.List.{length-replicate, length-map, drop_at}
use Rattle.std.proofs.lemmas.Int.Digits.{number_digits_of, all_below_base_digits_of}
use Rattle.pe_view.specs.Number.{byte_of}
use Rattle.coff_archive.specs.Bytes as format
use Rattle.coff_archive.specs.Bytes.{before, up_to, is_blank, is_digit, digits_value, is_number}
use Rattle.coff_library.specs.Written.{padded}

blanks_at : (n : ℕ) → up_to is_blank (replicate n 32) ≡ []
blanks_at zero = refl
blanks_at (suc n) = refl

blanks_are : (n : ℕ) → list_all is_blank (replicate n 32) ≡ true
blanks_are zero = refl
blanks_are (suc n) = blanks_are n

-- a text without a blank, with blanks behind it
put_back : (d : ℕ) (bytes rest : List ℕ) (o : Option (List ℕ)) → unwrap_or o bytes ≡ rest → unwrap_or (option_map (λ text. d ∷ text) o) (d ∷ bytes) ≡ d ∷ rest
put_back d bytes rest None is = ap (λ (bs : List ℕ). d ∷ bs) is
put_back d bytes rest (Some text) is = ap (λ (bs : List ℕ). d ∷ bs) is

pub up_to_blanks : (text : List ℕ) (n : ℕ) → list_any is_blank text ≡ false → up_to is_blank (text ++ replicate n 32) ≡ text
up_to_blanks [] n none = blanks_at n
up_to_blanks (d ∷ text) n none =
    let parts = or_parts (d == 32) (list_any is_blank text) none in
    rw parts.0 (put_back d _ _ (before is_blank (text ++ replicate n 32)) (up_to_blanks text n parts.1))

abbrev ascii : List ℕ → List ℕ
ascii ds = map (λ d. 48 + d) ds

value_is : (n : ℕ) (ds : List ℕ) → digits_value 10 n (ascii ds) ≡ number_from_digits_after 10 n ds
value_is n [] = refl
value_is n (d ∷ ds) =
    let e : 48 + d - 48 ≡ d = omega arith in
    ap (λ (x : ℕ). digits_value 10 (n * 10 + x) (ascii ds)) e ∙ value_is (n * 10 + d) ds

digits_are : (ds : List ℕ) → AllByRecursion (λ d. d < 10) ds → list_all (is_digit 10) (ascii ds) ≡ true
digits_are [] all = refl
digits_are (d ∷ ds) all =
    let low = le-leb 48 (48 + d) (omega arith) in
    let small = all.0 in
    let high = lt-ltb (48 + d) (48 + 10) (omega arith) in
    rw (low, high) (digits_are ds all.1)

no_blank : (ds : List ℕ) → list_any is_blank (ascii ds) ≡ false
no_blank [] = refl
no_blank (d ∷ ds) =
    let e : (48 + d == 32) ≡ false = ne_eqb (48 + d) 32 (λ h. omega arith) in
    rw e (no_blank ds)

some_digits : (ds : List ℕ) → 0 < number_from_digits 10 ds → 0 < length ds
some_digits [] lt = absurd (omega arith)
some_digits (d ∷ ds) lt = omega arith

-- digits, with blanks behind them, are the number that they write
number_is : (ds : List ℕ) (n k : ℕ) → 0 < length ds → AllByRecursion (λ d. d < 10) ds → number_from_digits 10 ds ≡ n → format.decimal (ascii ds ++ replicate k 32) ≡ Some n
number_is ds n k some all is =
    let text : List ℕ = ascii ds in
    let front : up_to is_blank (text ++ replicate k 32) ≡ text = up_to_blanks text k (no_blank ds) in
    let same : length text ≡ length ds = length-map ds (λ d. 48 + d) in
    let one : nat_lt 0 (length text) ≡ true = lt-ltb 0 (length text) (omega arith) in
    let digits : list_all (is_digit 10) text ≡ true = digits_are ds all in
    let rest : list_all is_blank (drop (length text) (text ++ replicate k 32)) ≡ true = rw (drop_at text (replicate k 32) (length text) refl) (blanks_are k) in
    let number : is_number 10 (text ++ replicate k 32) ≡ true = rw front (rw (one, digits, rest) refl) in
    rw (number, front) (ap Some (value_is 0 ds ∙ is))

first_of : (ds rest : List ℕ) → 0 < length ds → AllByRecursion (λ d. d < 10) ds → is_digit 10 (byte_of (ascii ds ++ rest) 0) ≡ true
first_of [] rest some all = absurd (omega (arith, some))
first_of (d ∷ ds) rest some all =
    let low = le-leb 48 (48 + d) (omega arith) in
    let small = all.0 in
    let high = lt-ltb (48 + d) (48 + 10) (omega (arith, small)) in
    rw (low, high) refl

-- a number begins with a digit
pub first_digit : (n : ℕ) (rest : List ℕ) → n < 2 ^ 32 → is_digit 10 (byte_of (decimal n ++ rest) 0) ≡ true
first_digit n rest small = elim (cases_lt 0 n) [
  | inl some ↦
      (let value = number_digits_of 10 n (omega arith) in
      let text = decimal-digits_of n some (omega arith) in
      ap (λ (bs : List ℕ). is_digit 10 (byte_of (bs ++ rest) 0)) text ∙ first_of (digits_of 10 n) rest (some_digits (digits_of 10 n) (omega arith)) (all_below_base_digits_of 10 n (omega arith)))
  | inr none ↦
      (let zero_is : n ≡ 0 = omega arith in
      let text = ap decimal zero_is ∙ decimal_digit 0 (omega arith) in
      ap (λ (bs : List ℕ). is_digit 10 (byte_of (bs ++ rest) 0)) text ∙ first_of (0 ∷ []) rest (omega arith) (omega arith, tt))
]

-- a number is read back from its digits
pub decimal_read : (n k : ℕ) → n < 2 ^ 32 → format.decimal (decimal n ++ replicate k 32) ≡ Some n
decimal_read n k small = elim (cases_lt 0 n) [
  | inl some ↦
      (let value = number_digits_of 10 n (omega arith) in
      let text = decimal-digits_of n some (omega arith) in
      ap (λ (bs : List ℕ). format.decimal (bs ++ replicate k 32)) text
      ∙ number_is (digits_of 10 n) n k (some_digits (digits_of 10 n) (omega arith)) (all_below_base_digits_of 10 n (omega arith)) value)
  | inr none ↦
      (let zero_is : n ≡ 0 = omega arith in
      let text = ap decimal zero_is ∙ decimal_digit 0 (omega arith) in
      ap (λ (bs : List ℕ). format.decimal (bs ++ replicate k 32)) text ∙ number_is (0 ∷ []) 0 k (omega arith) (omega arith, tt) refl ∙ ap Some (sym zero_is))
]

pub length-padded : (width : ℕ) (text : List ℕ) → length text ≤ width → length (padded width text) ≡ width
unfolding padded
length-padded width text le =
    let both = length-append text (replicate (width - length text) 32) in
    let fill : length {A = ℕ} (replicate (width - length text) 32) ≡ width - length text = length-replicate (width - length text) 32 in
    omega arith

pub length-digits : (n : ℕ) → n < 2 ^ 32 → length (decimal n) ≤ 10
length-digits n small = length-decimal-le 10 n (omega arith) (omega arith) (omega arith)
