-- `{:x}` writes a number in as many hexadecimal digits as it needs.
use Rattle.std.proofs.Common.{ℕ, zero, suc, ◌≡◌, ◌⊎◌, inl, inr, ◌+◌, ◌*◌, ◌/◌, ◌%◌, ◌^◌, ◌<◌, ◌≤◌, List, [], ◌∷◌, ◌++◌, length, refl, arith, sym, ◌∙◌, ap, append_assoc}
use Rattle.std.specs.Prelude.{false, nat_lt}
use Rattle.std.specs.Fmt.{digits, digits_onto, digit_glyph}
use Rattle.std.proofs.Math.Nat.{pow-succ', div-one, div-eq_of_lt, div-div-eq-div-mul}
use Rattle.std.proofs.lemmas.Nat.{pow_pos, div_below, le-div}
use Rattle.std.proofs.lemmas.List.{append-nil}
use Rattle.std.proofs.lemmas.Bool.{cases_Bool, ltb-true, ltb-false, ne_eqb, eq-eqb}
use Rattle.pe_text.specs.Text.{glyph, hex, width_from}

-- one digit less of a sixteenth
sixteenth : (k n : ℕ) → n / 16 ^ suc k ≡ n / 16 / 16 ^ k
sixteenth k n = ap (λ (m : ℕ). n / m) (pow-succ' 16 k) ∙ sym (div-div-eq-div-mul n 16 (16 ^ k))

-- the last digit of a number comes after those of its sixteenth
hex_last : (k n : ℕ) → hex (suc k) n ≡ hex k (n / 16) ++ (glyph (n % 16) ∷ [])
unfolding hex
hex_last zero n = rw (div-one n) refl
hex_last (suc k) n = rw (sixteenth k n, hex_last k n) refl

-- a number of k + 1 digits, of which the first is not zero unless it is the only one
onto : (k more n : ℕ) (acc : List ℕ) → k < more → n < 16 ^ suc k → (k ≡ 0) ⊎ (16 ^ k ≤ n) → digits_onto more 16 false n acc ≡ hex (suc k) n ++ acc
unfolding hex
onto k zero n acc below fits least = absurd omega (arith, below)
onto zero (suc more) n acc below fits least = let e : n / 16 ≡ 0 = div-eq_of_lt fits in rw (eq-eqb (n / 16) 0 e, div-one n) refl
onto (suc k) (suc more) n acc below fits (inl none) = absurd omega (arith, none)
onto (suc k) (suc more) n acc below fits (inr least) =
    let high : 16 ^ suc k ≡ 16 * 16 ^ k = pow-succ' 16 k in
    let higher : 16 ^ suc (suc k) ≡ 16 * 16 ^ suc k = pow-succ' 16 (suc k) in
    let front : 16 ^ k ≤ n / 16 = le-div (16 ^ k) n 16 (omega arith) (omega (arith, least, high)) in
    let some = pow_pos k in
    rw (ne_eqb (n / 16) 0 (λ e. omega (arith, e, front, some)))
    (onto k more (n / 16) (digit_glyph false (n % 16) ∷ acc) (omega (arith, below)) (div_below n 16 (16 ^ suc k) (omega arith) (omega (arith, fits, higher))) (inr front)
    ∙ sym (ap (λ (ds : List ℕ). ds ++ acc) (hex_last (suc k) n) ∙ append_assoc (hex (suc k) (n / 16)) (glyph (n % 16) ∷ []) acc))

-- they are all of its digits
whole : (k n : ℕ) → k < 64 → n < 16 ^ suc k → (k ≡ 0) ⊎ (16 ^ k ≤ n) → hex (suc k) n ≡ digits 16 false n
unfolding digits
whole k n below fits least = sym (onto k 64 n [] below fits least ∙ append-nil (hex (suc k) n))

-- a number of at least j + 1 digits, and at most so many more
shown : (more j n : ℕ) → suc j + more ≤ 16 → n < 16 ^ (suc j + more) → (j ≡ 0) ⊎ (16 ^ j ≤ n) → hex (width_from more (suc j) n) n ≡ digits 16 false n
unfolding width_from
shown zero j n bound fits least = let e : suc j + 0 ≡ suc j = omega arith in whole j n (omega (arith, bound)) (rw e at fits) least
shown (suc more) j n bound fits least =
    elim (cases_Bool (nat_lt n (16 ^ suc j))) [
      | inl enough ↦ rw enough (whole j n (omega (arith, bound)) (ltb-true _ _ enough) least)
      | inr not ↦ (let one : suc j + 1 ≡ suc (suc j) = omega arith in
          let all : suc j + suc more ≡ suc (suc j) + more = omega arith in
          rw (not, one) (shown more (suc j) n (omega (arith, bound)) (rw all at fits) (inr (ltb-false _ _ not))))
    ]

-- a number of 64 bits in as many digits as it needs
pub hex_shown : (n : ℕ) → n < 2 ^ 64 → hex (width_from 15 1 n) n ≡ digits 16 false n
hex_shown n below = shown 15 0 n (omega arith) below (inl refl)

-- as many digits are shown as the width
pub length-hex : (k n : ℕ) → length (hex k n) ≡ k
unfolding hex
length-hex zero n = refl
length-hex (suc k) n = ap suc (length-hex k n)
