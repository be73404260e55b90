-- The bytes from an address on, piece by piece.
use Rattle.std.proofs.Common.{◌≡◌, ◌∙◌, ℕ, zero, suc, ◌+◌, ◌≤◌, List, ◌∷◌, ◌++◌, take, refl, sym, ap, append_assoc, arith}
use Rattle.std.specs.Prelude.{unwrap_or}
use Rattle.pe_space.specs.Content.{Content, byte_at, bytes_from}

module _ (c : Content) where
  -- bytes, and those after them
  pub bytes_then : (a m n : ℕ) → bytes_from c a (m + n) ≡ bytes_from c a m ++ bytes_from c (a + m) n
  bytes_then a zero n = let e : a ≡ a + 0 = omega arith in let z : 0 + n ≡ n = omega arith in rw z (ap (λ (r : ℕ). bytes_from c r n) e)
  bytes_then a (suc m) n =
      let k : suc m + n ≡ suc (m + n) = omega arith in
      let e : a + 1 + m ≡ a + suc m = omega arith in
      rw (k, bytes_then (a + 1) m n, e) refl

  -- the first of them
  first_bytes : (a m n : ℕ) → m ≤ n → take m (bytes_from c a n) ≡ bytes_from c a m
  first_bytes a zero n le = refl
  first_bytes a (suc m) zero le = absurd (omega arith)
  first_bytes a (suc m) (suc n) le = ap (λ (bytes : List ℕ). unwrap_or (byte_at c a) 0 ∷ bytes) (first_bytes (a + 1) m n (omega arith))

  -- a beginning of them is some number of them
  beginning_is : (a n k : ℕ) → (m : ℕ) × (m ≤ n) × (take k (bytes_from c a n) ≡ bytes_from c a m)
  beginning_is a n zero = (0, omega arith, refl)
  beginning_is a zero (suc k) = (0, omega arith, refl)
  beginning_is a (suc n) (suc k) =
      let rest = beginning_is (a + 1) n k in
      let le = rest.1 in
      (suc rest.0, omega (arith, le), ap (λ (bytes : List ℕ). unwrap_or (byte_at c a) 0 ∷ bytes) rest.2)

  module _ (before mid now : List ℕ) (a done len : ℕ) (so_far : mid ≡ before ++ bytes_from c a done) where
    -- one piece more
    pub more : now ≡ mid ++ bytes_from c (a + done) len → now ≡ before ++ bytes_from c a (done + len)
    more is =
        is ∙ ap (λ (xs : List ℕ). xs ++ bytes_from c (a + done) len) so_far ∙ append_assoc before (bytes_from c a done) (bytes_from c (a + done) len)
        ∙ ap (λ (xs : List ℕ). before ++ xs) (sym (bytes_then a done len))

  -- a beginning of one piece more
  pub begun : (before mid now : List ℕ) (a done len k all : ℕ) → mid ≡ before ++ bytes_from c a done → done + len ≤ all
      → now ≡ mid ++ take k (bytes_from c (a + done) len) → (n : ℕ) × (now ≡ before ++ take n (bytes_from c a all))
  begun before mid now a done len k all so_far fits is =
      let part = beginning_is (a + done) len k in
      let few = part.1 in
      let within : done + part.0 ≤ all = omega (arith, few, fits) in
      (done + part.0, more before mid now a done part.0 so_far (is ∙ ap (λ (xs : List ℕ). mid ++ xs) part.2) ∙ ap (λ (xs : List ℕ). before ++ xs) (sym (first_bytes a (done + part.0) all within)))
