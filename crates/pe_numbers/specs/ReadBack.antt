-- Numbers that were written are read back at the same place.
use Rattle.std.proofs.Common.{◌≡◌, ℕ, zero, suc, ◌+◌, ◌-◌, ◌<◌, ◌≤◌, List, [], ◌∷◌, ◌++◌, length, Some, None, refl, sym, ap, subst, append_assoc, ◌∙◌, arith, inl, inr, length-append}
use Rattle.std.specs.Prelude.{nat_lt}
use Rattle.std.specs.List.{AllByRecursion}
use Rattle.std.proofs.lemmas.Bool.{cases_Bool, ltb-false}
use Rattle.std.proofs.lemmas.Option.{same_Some}
use Rattle.std.proofs.lemmas.List.{get_or_append_left, get_or-append_right}
use Rattle.std.proofs.lemmas.List.FromFn.{length-map-range_with_len, get_or-map-range_with_len}
use Rattle.pe_view.specs.Digits.{num_of_own_digits}
use Rattle.pe_view.specs.Number.{num, byte_of, digit}
use Rattle.pe_numbers.specs.declared.number.Number.{Number}
use Rattle.pe_numbers.specs.StandsAt.{StandsAt, stands_num}
use Rattle.pe_numbers.specs.Numbers.{width_of, value_of, NumberFits, number_bytes, numbers_bytes, numbers_size, beginning_at}

pub length-number : (n : Number) → length (number_bytes n) ≡ width_of n
unfolding number_bytes
length-number n = length-map-range_with_len (digit (value_of n)) 0 (width_of n)

pub length-numbers : (ns : List Number) → length (numbers_bytes ns) ≡ numbers_size ns
length-numbers [] = refl
length-numbers (n ∷ ns) = let e = length-numbers ns in let f = length-number n in omega (arith, length-append (number_bytes n) (numbers_bytes ns))

pub size-append : (ms ns : List Number) → numbers_size (ms ++ ns) ≡ numbers_size ms + numbers_size ns
size-append [] ns = omega arith
size-append (m ∷ ms) ns = let e = size-append ms ns in omega arith

pub bytes-append : (ms ns : List Number) → numbers_bytes (ms ++ ns) ≡ numbers_bytes ms ++ numbers_bytes ns
bytes-append [] ns = refl
bytes-append (m ∷ ms) ns = ap (λ (bs : List ℕ). number_bytes m ++ bs) (bytes-append ms ns) ∙ sym (append_assoc (number_bytes m) (numbers_bytes ms) (numbers_bytes ns))

digit_of : (n : Number) (k : ℕ) → k < width_of n → byte_of (number_bytes n) k ≡ digit (value_of n) k
unfolding number_bytes
digit_of n k lt = get_or-map-range_with_len (digit (value_of n)) 0 (width_of n) k k 0 lt (omega arith)

-- the number at an offset of a sequence
record Stands (ns : List Number) (offset : ℕ) (x : Number) : Type 0 where
  inside : offset + width_of x ≤ numbers_size ns
  digits : (k : ℕ) → k < width_of x → byte_of (numbers_bytes ns) (offset + k) ≡ digit (value_of x) k
  fits : NumberFits x

stands : (ns : List Number) (offset : ℕ) (x : Number) → AllByRecursion NumberFits ns → beginning_at ns offset ≡ Some x → Stands ns offset x
stands [] offset x fits at = absurd cc
stands (n ∷ ns) zero x fits at =
    let len = length-number n in
    subst (Stands (n ∷ ns) 0) (same_Some n x at)
    (record {
      inside = omega arith;
      digits = λ k lt. ap (byte_of (numbers_bytes (n ∷ ns))) (let e : 0 + k ≡ k = omega arith in e) ∙ get_or_append_left (number_bytes n) (numbers_bytes ns) 0 k (omega (arith, len, lt)) ∙ digit_of n k lt;
      fits = fits.0;
    })
stands (n ∷ ns) (suc o) x fits at = elim (cases_Bool (nat_lt (suc o) (width_of n))) [
  | inl before ↦ absurd (let none : beginning_at (n ∷ ns) (suc o) ≡ None = rw before refl in let e = sym none ∙ at in cc)
  | inr behind ↦
      (let same : beginning_at (n ∷ ns) (suc o) ≡ beginning_at ns (suc o - width_of n) = rw behind refl in
      let s = stands ns (suc o - width_of n) x fits.1 (sym same ∙ at) in
      let le = ltb-false (suc o) (width_of n) behind in
      let within = s.inside in
      let len = length-number n in
      record {
        inside = omega (arith, le, within);
        digits = λ k lt.
            get_or-append_right (number_bytes n) (numbers_bytes ns) (width_of n) (suc o + k) 0 len (omega (arith, le))
            ∙ ap (byte_of (numbers_bytes ns)) (let e : suc o + k - width_of n ≡ suc o - width_of n + k = omega (arith, le) in e)
            ∙ s.digits k lt;
        fits = s.fits;
      })
]

-- a number of a sequence fits if all do
pub number_fits : (ns : List Number) (offset : ℕ) (x : Number) → AllByRecursion NumberFits ns → beginning_at ns offset ≡ Some x → NumberFits x
number_fits ns offset x fits at = (stands ns offset x fits at).fits

-- a number at an offset of a sequence is read back there
pub number_read : (file : List ℕ) (place : ℕ) (ns : List Number) (offset : ℕ) (x : Number) → AllByRecursion NumberFits ns → StandsAt file place (numbers_bytes ns) → beginning_at ns offset ≡ Some x
    → num (byte_of file) (place + offset) (width_of x) ≡ value_of x
number_read file place ns offset x fits there at =
    let s = stands ns offset x fits at in
    let within = s.inside in
    let len = length-numbers ns in
    stands_num file place (numbers_bytes ns) offset (width_of x) there (omega (arith, within, len)) ∙ num_of_own_digits (byte_of (numbers_bytes ns)) offset (width_of x) (value_of x) s.fits s.digits
