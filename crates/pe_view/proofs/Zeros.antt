-- Strings by the bytes that are not zero.
use Rattle.std.proofs.Common.{◌≡◌, ◌≢◌, ℕ, zero, suc, ◌+◌, ◌-◌, ◌<◌, ◌≤◌, List, [], ◌∷◌, length, get_or, take, drop, Option, Some, None, refl, sym, ap, subst, ◌∙◌, arith, length-drop, true, false, inl, inr}
use Rattle.std.specs.Prelude.{nat_le, option_map, slice_range}
use Rattle.std.proofs.lemmas.Bool.{le-leb, leb-true, eqb-true, cases_Bool, cases_lt}
use Rattle.std.proofs.lemmas.Option.{same_Some}
use Rattle.std.proofs.lemmas.List.{get_or-take, get_or-drop, length-take-le}
use Rattle.pe_view.specs.Number.{byte_of, part}
use Rattle.pe_view.specs.Text.{zero_ended, text_between}
use Rattle.pe_view.specs.TextEnds.{HasNoZero}
use Rattle.pe_view.proofs.Texts.{zero_ended-none, zero_ended-at}

-- ---- in one list of bytes
no_text : (b : ℕ) (o : Option (List ℕ)) → option_map (λ text. suc b ∷ text) o ≡ None → o ≡ None
no_text b None is = refl
no_text b (Some t) is = absurd cc

none_zero : (bytes : List ℕ) → zero_ended bytes ≡ None → (k : ℕ) → k < length bytes → get_or bytes k 0 ≢ 0
none_zero [] none k lt = absurd (omega (arith, lt))
none_zero (zero ∷ bytes) none k lt = absurd cc
none_zero (suc b ∷ bytes) none zero lt = λ is. absurd cc
none_zero (suc b ∷ bytes) none (suc k) lt = none_zero bytes (no_text b (zero_ended bytes) none) k (omega (arith, lt))

record IsEnded (bytes text : List ℕ) : Type 0 where
  short : length text < length bytes
  taken : text ≡ take (length text) bytes
  zero_behind : get_or bytes (length text) 0 ≡ 0
  none_before : (k : ℕ) → k < length text → get_or bytes k 0 ≢ 0

step : (b : ℕ) (o : Option (List ℕ)) (text : List ℕ) → option_map (λ text. suc b ∷ text) o ≡ Some text → (u : List ℕ) × (o ≡ Some u) × (text ≡ suc b ∷ u)
step b None text is = absurd cc
step b (Some u) text is = (u, refl, sym (same_Some (suc b ∷ u) text is))

ended : (bytes text : List ℕ) → zero_ended bytes ≡ Some text → IsEnded bytes text
ended [] text is = absurd cc
ended (zero ∷ bytes) text is = subst (IsEnded (zero ∷ bytes)) (same_Some [] text is)
    (record { short = omega arith; taken = refl; zero_behind = refl; none_before = λ k lt. absurd (omega (arith, lt)) })
ended (suc b ∷ bytes) text is =
    let u = step b (zero_ended bytes) text is in
    let rest = ended bytes u.0 u.1 in
    let short = rest.short in
    subst (IsEnded (suc b ∷ bytes)) (sym u.2)
    (record {
      short = omega (arith, short);
      taken = ap (λ (t : List ℕ). suc b ∷ t) rest.taken;
      zero_behind = rest.zero_behind;
      none_before = λ k lt. before bytes u.0 rest.none_before k lt;
    })
  where
    before : (bytes t : List ℕ) → ((k : ℕ) → k < length t → get_or bytes k 0 ≢ 0) → (k : ℕ) → k < suc (length t) → get_or (suc b ∷ bytes) k 0 ≢ 0
    before bytes t rest zero lt = λ is. absurd cc
    before bytes t rest (suc k) lt = rest k (omega (arith, lt))

less_taken : (m n : ℕ) (xs : List ℕ) → m ≤ n → take m (take n xs) ≡ take m xs
less_taken zero n xs le = refl
less_taken (suc m) zero xs le = absurd (omega (arith, le))
less_taken (suc m) (suc n) [] le = refl
less_taken (suc m) (suc n) (x ∷ xs) le = ap (λ (ys : List ℕ). x ∷ ys) (less_taken m n xs (omega (arith, le)))

-- ---- in a file
module _ (file : List ℕ) (offset end : ℕ) (inside : end ≤ length file) where
  between : text_between file offset end ≡ zero_ended (slice_range file offset end)
  between = rw (le-leb end (length file) inside) refl

  count : offset ≤ end → length (slice_range file offset end) ≡ end - offset
  count le = let left = length-drop offset file in length-take-le (end - offset) (drop offset file) (omega (arith, left, inside, le))

  byte_at : (k : ℕ) → k < end - offset → get_or (slice_range file offset end) k 0 ≡ byte_of file (offset + k)
  byte_at k lt = get_or-take (end - offset) (drop offset file) k 0 lt ∙ get_or-drop offset file k 0

  -- where a string that was found ends: at a zero byte, with none before it
  pub record IsFound (text : List ℕ) : Type 0 where
    pub short : offset + length text < end
    pub none : HasNoZero file offset (offset + length text)
    pub zero_behind : byte_of file (offset + length text) ≡ 0
    pub taken : text ≡ part file offset (length text)

  pub found : (text : List ℕ) → offset ≤ end → text_between file offset end ≡ Some text → IsFound text
  found text le is =
      let e = ended (slice_range file offset end) text (sym between ∙ is) in
      let size = count le in
      let short = e.short in
      record {
        short = omega (arith, short, size);
        none = λ k low high. let here : offset + (k - offset) ≡ k = omega (arith, low) in
            λ is_zero. e.none_before (k - offset) (omega (arith, low, high)) (byte_at (k - offset) (omega (arith, low, high, short, size)) ∙ ap (byte_of file) here ∙ is_zero);
        zero_behind = sym (byte_at (length text) (omega (arith, short, size))) ∙ e.zero_behind;
        taken = e.taken ∙ less_taken (length text) (end - offset) (drop offset file) (omega (arith, short, size));
      }

  pub not_found : offset ≤ end → text_between file offset end ≡ None → HasNoZero file offset end
  not_found le is = λ k low high is_zero.
      let size = count le in
      let here : offset + (k - offset) ≡ k = omega (arith, low) in
      none_zero (slice_range file offset end) (sym between ∙ is) (k - offset) (omega (arith, low, high, size)) (byte_at (k - offset) (omega (arith, low, high)) ∙ ap (byte_of file) here ∙ is_zero)

  -- the first zero byte ends a string
  pub text_at : (z : ℕ) → offset ≤ z → z < end → HasNoZero file offset z → byte_of file z ≡ 0 → text_between file offset end ≡ Some (part file offset (z - offset))
  text_at z low high none is_zero =
      let here : offset + (z - offset) ≡ z = omega (arith, low) in
      let size = count (omega (arith, low, high)) in
      between
      ∙ zero_ended-at (slice_range file offset end) (z - offset) (omega (arith, low, high, size)) (byte_at (z - offset) (omega (arith, low, high)) ∙ ap (byte_of file) here ∙ is_zero)
      (λ k lt is. none (offset + k) (omega arith) (omega (arith, lt, low)) (sym (byte_at k (omega (arith, lt, high, low))) ∙ eqb-true _ _ is))
      ∙ ap (λ (t : List ℕ). Some t) (less_taken (z - offset) (end - offset) (drop offset file) (omega (arith, high)))

  pub no_text_at : (z : ℕ) → offset ≤ end → end ≤ z → HasNoZero file offset z → text_between file offset end ≡ None
  no_text_at z le high none =
      let size = count le in
      between
      ∙ zero_ended-none (slice_range file offset end)
      (λ k lt is. none (offset + k) (omega arith) (omega (arith, lt, high, size)) (sym (byte_at k (omega (arith, lt, size))) ∙ eqb-true _ _ is))

-- a string between two offsets is a part of the file
pub text_part : (file : List ℕ) (offset end : ℕ) (text : List ℕ) → text_between file offset end ≡ Some text → (offset + length text < end) × (text ≡ part file offset (length text))
text_part file offset end text is = elim (cases_Bool (nat_le end (length file))) [
  | inl inside ↦ elim (cases_lt end offset) [
    | inl lt ↦
        (let none : end - offset ≡ 0 = omega (arith, lt) in
        let gone : text_between file offset end ≡ None = rw (inside, none) refl in
        absurd (let e = sym gone ∙ is in cc))
    | inr le ↦
        (let f = found file offset end (leb-true _ _ inside) text (omega (arith, le)) is in
        (f.short, f.taken))
  ]
  | inr outside ↦ (let gone : text_between file offset end ≡ None = rw outside refl in absurd (let e = sym gone ∙ is in cc))
]
