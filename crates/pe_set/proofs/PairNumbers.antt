-- Each pair of the exports of a set's images has a number of its own.
use Rattle.std.proofs.Common.{◌≡◌, ◌∙◌, ◌<◌, ◌+◌, ℕ, zero, suc, List, [], ◌∷◌, Bool, true, false, cond, length, Option, None, Some, refl, sym, ap, arith}
use Rattle.std.specs.Prelude.{option_map, ◌==◌}
use Rattle.std.specs.List.{find}
use Rattle.std.specs.Str.{bytes_eq}
use Rattle.std.proofs.lemmas.Bool.{eqb-true}
use Rattle.std.proofs.lemmas.Slice.Eq.{bytes_eq-Decides}
use Rattle.pe_tables.specs.Key.{Key, Ordinal, Name, Target}
use Rattle.pe_tables.specs.Exports.{Exports, target_at}
use Rattle.pe_set.specs.Set.{Module}
use Rattle.pe_set.specs.Search.{target_in, pairs_of}

-- the index of the first item that passes a test, or their number
abbrev first : {X : Type 0} → (X → Bool) → List X → ℕ
first p [] = 0
first p (x ∷ xs) = cond (p x) 0 (suc (first p xs))

abbrev pair_at : Exports → Key → ℕ
pair_at e (Ordinal n) = first (λ p. p.0 == n) e.ordinals
pair_at e (Name text) = length e.ordinals + first (λ p. bytes_eq text p.0) e.names

abbrev pub pair_number : List Module → ℕ → Key → ℕ
pair_number [] i key = 0
pair_number (m ∷ s) zero key = pair_at m.exports key
pair_number (m ∷ s) (suc i) key = length m.exports.ordinals + length m.exports.names + pair_number s i key

-- ---- in one list
found_step : {X : Type 0} (b : Bool) (y : X) (o : Option X) (x : X) (i n : ℕ) → (o ≡ Some x → i < n) → cond b (Some y) o ≡ Some x → cond b 0 (suc i) < suc n
found_step true y o x i n later is = omega arith
found_step false y o x i n later is = let lt = later is in omega (arith, lt)

first_in : {X : Type 0} (p : X → Bool) (xs : List X) (x : X) → find p xs ≡ Some x → first p xs < length xs
first_in p [] x is = absurd cc
first_in p (y ∷ xs) x is = found_step (p y) y (find p xs) x (first p xs) (length xs) (first_in p xs x) is

same_step : {X R : Type 0} (b c : Bool) (z : X) (o o' : Option X) (x y : X) (i j : ℕ) → (b ≡ true → c ≡ true → R) → (o ≡ Some x → o' ≡ Some y → i ≡ j → R)
    → cond b (Some z) o ≡ Some x → cond c (Some z) o' ≡ Some y → cond b 0 (suc i) ≡ cond c 0 (suc j) → R
same_step true true z o o' x y i j here later is is' e = here refl refl
same_step true false z o o' x y i j here later is is' e = absurd (omega (arith, e))
same_step false true z o o' x y i j here later is is' e = absurd (omega (arith, e))
same_step false false z o o' x y i j here later is is' e = later is is' (omega (arith, e))

-- an item that passes both tests
same_first : {X : Type 0} (p q : X → Bool) (xs : List X) (x y : X) → find p xs ≡ Some x → find q xs ≡ Some y → first p xs ≡ first q xs → (z : X) × (p z ≡ true) × (q z ≡ true)
same_first p q [] x y is is' e = absurd cc
same_first p q (z ∷ xs) x y is is' e =
    same_step (p z) (q z) z (find p xs) (find q xs) x y (first p xs) (first q xs) (λ a b. (z, a, b)) (λ is is' e. same_first p q xs x y is is' e) is is' e

mapped : {X Y : Type 0} (f : X → Y) (o : Option X) (y : Y) → option_map f o ≡ Some y → (x : X) × (o ≡ Some x)
mapped f None y is = absurd cc
mapped f (Some x) y is = (x, refl)

-- ---- in one image's exports
pair_in : (e : Exports) (key : Key) (t : Target) → target_at e key ≡ Some t → pair_at e key < length e.ordinals + length e.names
pair_in e (Ordinal n) t is =
    let x = mapped (λ p. p.1) (find (λ p. p.0 == n) e.ordinals) t is in
    let lt = first_in (λ p. p.0 == n) e.ordinals x.0 x.1 in
    omega (arith, lt)
pair_in e (Name text) t is =
    let x = mapped (λ p. p.1) (find (λ p. bytes_eq text p.0) e.names) t is in
    let lt = first_in (λ p. bytes_eq text p.0) e.names x.0 x.1 in
    omega (arith, lt)

pair_same : (e : Exports) (a b : Key) (t u : Target) → target_at e a ≡ Some t → target_at e b ≡ Some u → pair_at e a ≡ pair_at e b → a ≡ b
pair_same e (Ordinal m) (Ordinal n) t u is is' same =
    let x = mapped (λ p. p.1) (find (λ p. p.0 == m) e.ordinals) t is in
    let y = mapped (λ p. p.1) (find (λ p. p.0 == n) e.ordinals) u is' in
    let z = same_first (λ p. p.0 == m) (λ p. p.0 == n) e.ordinals x.0 y.0 x.1 y.1 same in
    ap (λ n. Ordinal n) (sym (eqb-true z.0.0 m z.1) ∙ eqb-true z.0.0 n z.2)
pair_same e (Ordinal m) (Name b) t u is is' same =
    let x = mapped (λ p. p.1) (find (λ p. p.0 == m) e.ordinals) t is in
    let lt = first_in (λ p. p.0 == m) e.ordinals x.0 x.1 in
    absurd (omega (arith, lt, same))
pair_same e (Name a) (Ordinal n) t u is is' same =
    let y = mapped (λ p. p.1) (find (λ p. p.0 == n) e.ordinals) u is' in
    let lt = first_in (λ p. p.0 == n) e.ordinals y.0 y.1 in
    absurd (omega (arith, lt, same))
pair_same e (Name a) (Name b) t u is is' same =
    let x = mapped (λ p. p.1) (find (λ p. bytes_eq a p.0) e.names) t is in
    let y = mapped (λ p. p.1) (find (λ p. bytes_eq b p.0) e.names) u is' in
    let z = same_first (λ p. bytes_eq a p.0) (λ p. bytes_eq b p.0) e.names x.0 y.0 x.1 y.1 (omega (arith, same)) in
    ap (λ text. Name text) ((bytes_eq-Decides a z.0.0).0 z.1 ∙ sym ((bytes_eq-Decides b z.0.0).0 z.2))

-- ---- in a set
pub number_in : (s : List Module) (i : ℕ) (key : Key) (t : Target) → target_in s key i ≡ Some t → pair_number s i key < pairs_of s
number_in [] i key t is = absurd cc
number_in (m ∷ s) zero key t is = let lt = pair_in m.exports key t is in omega (arith, lt)
number_in (m ∷ s) (suc i) key t is = let lt = number_in s i key t is in omega (arith, lt)

pub number_same : (s : List Module) (i j : ℕ) (a b : Key) (t u : Target) → target_in s a i ≡ Some t → target_in s b j ≡ Some u → pair_number s i a ≡ pair_number s j b → (i ≡ j) × (a ≡ b)
number_same [] i j a b t u is is' same = absurd cc
number_same (m ∷ s) zero zero a b t u is is' same = (refl, pair_same m.exports a b t u is is' same)
number_same (m ∷ s) zero (suc j) a b t u is is' same = let lt = pair_in m.exports a t is in absurd (omega (arith, lt, same))
number_same (m ∷ s) (suc i) zero a b t u is is' same = let lt = pair_in m.exports b u is' in absurd (omega (arith, lt, same))
number_same (m ∷ s) (suc i) (suc j) a b t u is is' same =
    let both = number_same s i j a b t u is is' (omega (arith, same)) in
    (ap (λ n. suc n) both.0, both.1)
