-- What a search through a list finds, and numbers within a range.
use Rattle.std.proofs.Common.{◌≡◌, ℕ, zero, suc, ◌+◌, ◌<◌, ◌≤◌, ◌⊎◌, Bool, true, false, cond, List, [], ◌∷◌, length, get_or, Option, Some, None, refl, sym, inl, inr, arith}
use Rattle.std.specs.Prelude.{map, find, is_none, option_map}
use Rattle.std.proofs.lemmas.Bool.{and_from, and_parts, le-leb, lt-ltb, leb-true, ltb-true, false_from_ne_true}
use Rattle.std.proofs.lemmas.Option.{same_Some}
use Rattle.pe_view.specs.Number.{is_in}

-- a property of each element
abbrev pub Each : {X : Type 0} → (X → Type 0) → List X → Type 0
Each P [] = Unit {0}
Each P (x ∷ xs) = P x × Each P xs

pub each_map : {X : Type 0} (P Q : X → Type 0) (xs : List X) → ((x : X) → P x → Q x) → Each P xs → Each Q xs
each_map P Q [] f e = tt
each_map P Q (x ∷ xs) f e = (f x e.0, each_map P Q xs f e.1)

pub same_bool : (a b : Bool) → (a ≡ true → b ≡ true) → (b ≡ true → a ≡ true) → a ≡ b
same_bool true b f g = sym (f refl)
same_bool false true f g = g refl
same_bool false false f g = refl

pub in_range : (start len r : ℕ) → start ≤ r → r < start + len → is_in start len r ≡ true
in_range start len r low high = and_from _ _ (le-leb _ _ low) (lt-ltb _ _ high)

pub range_parts : (start len r : ℕ) → is_in start len r ≡ true → (start ≤ r) × (r < start + len)
range_parts start len r is = let p = and_parts _ _ is in (leb-true _ _ p.0, ltb-true _ _ p.1)

pub out_of_range : (start len r : ℕ) → (start ≤ r → r < start + len → ⊥) → is_in start len r ≡ false
out_of_range start len r never = false_from_ne_true _ (λ is. let p = range_parts start len r is in never p.0 p.1)

-- a number before a range
pub below_range : (start len r : ℕ) → r < start → is_in start len r ≡ false
below_range start len r lt = out_of_range start len r (λ low high. omega arith)

pub above_range : (start len r : ℕ) → start + len ≤ r → is_in start len r ≡ false
above_range start len r le = out_of_range start len r (λ low high. omega arith)

-- an element that a search found
pub record FoundAt {X : Type 0} (p : X → Bool) (xs : List X) (x : X) : Type 0 where
  pub place : ℕ
  pub inside : place < length xs
  pub is : (d : X) → get_or xs place d ≡ x
  pub passes : p x ≡ true

found_step : {X : Type 0} (p : X → Bool) (y : X) (xs : List X) (x : X) → ((find p xs ≡ Some x) → FoundAt p xs x) → (b : Bool) → p y ≡ b → cond b (Some y) (find p xs) ≡ Some x → FoundAt p (y ∷ xs) x
found_step {X = X} p y xs x rest true is e =
    let same : y ≡ x = same_Some y x e in
    record { place = 0; inside = omega arith; is = λ d. same; passes = rw (← same) is }
found_step p y xs x rest false is e =
    let there = rest e in
    record { place = suc there.place; inside = (let i = there.inside in omega arith); is = λ d. there.is d; passes = there.passes }

pub found : {X : Type 0} (p : X → Bool) (xs : List X) (x : X) → find p xs ≡ Some x → FoundAt p xs x
found p [] x e = absurd cc
found p (y ∷ xs) x e = found_step p y xs x (found p xs x) (p y) refl e

-- what was found has the properties of all elements
pub each_at : {X : Type 0} (P : X → Type 0) (xs : List X) (k : ℕ) (d : X) → k < length xs → Each P xs → P (get_or xs k d)
each_at P [] k d lt e = absurd (omega arith)
each_at P (x ∷ xs) zero d lt e = e.0
each_at P (x ∷ xs) (suc k) d lt e = each_at P xs k d (omega arith) e.1

pub each_found : {X : Type 0} (P : X → Type 0) (p : X → Bool) (xs : List X) (x : X) → Each P xs → find p xs ≡ Some x → P x
each_found P p xs x e is = let at = found p xs x is in rw (← (at.is x)) (each_at P xs at.place x at.inside e)

pub find_none : {X : Type 0} (p : X → Bool) (xs : List X) → Each (λ x. p x ≡ false) xs → find p xs ≡ None
find_none p [] e = refl
find_none p (x ∷ xs) e = rw e.0 (find_none p xs e.1)

pub find_same : {X : Type 0} (p q : X → Bool) (xs : List X) → Each (λ x. p x ≡ q x) xs → find p xs ≡ find q xs
find_same p q [] e = refl
find_same p q (x ∷ xs) e = rw (e.0, find_same p q xs e.1) refl

map_step : {X Y : Type 0} (f : X → Y) (b : Bool) (x : X) (o : Option X) (oy : Option Y) → oy ≡ option_map f o → cond b (Some (f x)) oy ≡ option_map f (cond b (Some x) o)
map_step f true x o oy e = refl
map_step f false x o oy e = e

pub find-map : {X Y : Type 0} (f : X → Y) (p : Y → Bool) (xs : List X) → find p (map f xs) ≡ option_map f (find (λ x. p (f x)) xs)
find-map f p [] = refl
find-map f p (x ∷ xs) = map_step f (p (f x)) x (find (λ x. p (f x)) xs) (find p (map f xs)) (find-map f p xs)

pub is_some_of : {X : Type 0} (o : Option X) → is_none o ≡ false → (x : X) × (o ≡ Some x)
is_some_of None e = absurd cc
is_some_of (Some x) e = (x, refl)

pub some_or_none : {X : Type 0} (o : Option X) → (o ≡ None) ⊎ ((x : X) × (o ≡ Some x))
some_or_none None = inl refl
some_or_none (Some x) = inr (x, refl)

-- the first element that passes
pub find_first : {X : Type 0} (p : X → Bool) (xs : List X) (k : ℕ) (d : X) → k < length xs → ((j : ℕ) → j < k → p (get_or xs j d) ≡ false) → p (get_or xs k d) ≡ true → find p xs ≡ Some (get_or xs k d)
find_first p [] k d lt before here = absurd (omega arith)
find_first p (x ∷ xs) zero d lt before here = rw here refl
find_first p (x ∷ xs) (suc k) d lt before here =
    let skips : p x ≡ false = before 0 (omega arith) in
    rw skips (find_first p xs k d (omega arith) (λ j below. before (suc j) (omega arith)) here)
