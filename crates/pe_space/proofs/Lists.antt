-- Lists by recursion, and the one element that a test finds.
use Rattle.std.proofs.Common.{◌≡◌, ℕ, zero, suc, ◌<◌, Bool, true, false, cond, ◌||◌, List, [], ◌∷◌, ◌++◌, length, take, drop, get_or, refl, ap, subst, arith}
use Rattle.std.specs.Prelude.{Some, None}
use Rattle.std.specs.List.{find, list_any, Contains}
use Rattle.pe_space.specs.FieldsAndSlots.{Each, EachPair}

pub each_map : {X : Type 0} (P Q : X → Type 0) (xs : List X) → ((x : X) → P x → Q x) → Each P xs → Each Q xs
each_map P Q [] f e = tt
each_map P Q (x ∷ xs) f e = (f x e.0, each_map P Q xs f e.1)

-- a fact about each element is one about all that the list contains
pub each_in : {X : Type 0} (P : X → Type 0) (xs : List X) → ((x : X) → Contains xs x → P x) → Each P xs
each_in P [] f = tt
each_in P (x ∷ xs) f = (f x (zero, omega arith, refl), each_in P xs (λ y held. let lt = held.1 in f y (suc held.0, omega arith, held.2)))

pub each_at : {X : Type 0} (P : X → Type 0) (xs : List X) (i : ℕ) (d : X) → Each P xs → i < length xs → P (get_or xs i d)
each_at P [] i d e lt = absurd (omega arith)
each_at P (x ∷ xs) zero d e lt = e.0
each_at P (x ∷ xs) (suc i) d e lt = each_at P xs i d e.1 (omega arith)

pub each_contains : {X : Type 0} (P : X → Type 0) (xs : List X) (x : X) → Each P xs → Contains xs x → P x
each_contains P xs x e c = subst P c.2 (each_at P xs c.0 x e c.1)

pub each_both : {X : Type 0} (P Q : X → Type 0) (xs : List X) → Each P xs → Each Q xs → Each (λ x. P x × Q x) xs
each_both P Q [] p q = tt
each_both P Q (x ∷ xs) p q = ((p.0, q.0), each_both P Q xs p.1 q.1)

contains_more : {X : Type 0} (y : X) (xs : List X) (x : X) → Contains xs x → Contains (y ∷ xs) x
contains_more y xs x c = (suc c.0, (let lt = c.1 in omega arith), c.2)

in_step : {X : Type 0} (p : X → Bool) (y : X) (xs : List X) (x : X) (b : Bool) → p y ≡ b → (find p xs ≡ Some x → Contains xs x × (p x ≡ true)) → cond b (Some y) (find p xs) ≡ Some x → Contains (y ∷ xs) x × (p x ≡ true)
in_step p y xs x true is later h = let same : y ≡ x = cc in ((0, omega arith, same), subst (λ z. p z ≡ true) same is)
in_step p y xs x false is later h = let more = later h in (contains_more y xs x more.0, more.1)

-- what a search finds is an element that passes
pub find_in : {X : Type 0} (p : X → Bool) (xs : List X) (x : X) → find p xs ≡ Some x → Contains xs x × (p x ≡ true)
find_in p [] x h = cc
find_in p (y ∷ xs) x h = in_step p y xs x (p y) refl (find_in p xs x) h

-- what a search finds passes the test, and has the properties of all elements
pub found : {X : Type 0} (P : X → Type 0) (p : X → Bool) (xs : List X) (x : X) → Each P xs → find p xs ≡ Some x → (p x ≡ true) × P x
found P p [] x e h = cc
found P p (y ∷ ys) x e h =
    let step : (b : Bool) → p y ≡ b → cond b (Some y) (find p ys) ≡ Some x → (p x ≡ true) × P x = λ b is.
    elim b as (λ b. p y ≡ b → cond b (Some y) (find p ys) ≡ Some x → (p x ≡ true) × P x) [
      | true ↦ λ is h. (let same : y ≡ x = cc in (rw (← same) is, subst P same e.0))
      | false ↦ λ is h. found P p ys x e.1 h
    ] is in
    step (p y) refl h

-- if no two elements both pass, a search for one that passes finds it
abbrev pub Finds : {X : Type 0} → (X → X → Type 0) → List X → X → Type 0
Finds {X} R xs x = (p : X → Bool) → p x ≡ true → ((y : X) → R y x → p y ≡ true → ⊥) → find p xs ≡ Some x

finds_first : {X : Type 0} (R : X → X → Type 0) (x : X) (xs : List X) (y : X) → R x y → Finds R xs y → (p : X → Bool) → p y ≡ true → ((z : X) → R z y → p z ≡ true → ⊥) → (b : Bool) → p x ≡ b → cond b (Some x) (find p xs) ≡ Some y
finds_first R x xs y r f p is never true h = absurd (never x r h)
finds_first R x xs y r f p is never false h = f p is never

-- for no element before x does R hold with x and the test pass
pub finds_each : {X : Type 0} (R : X → X → Type 0) (xs : List X) → EachPair R xs → Each (Finds R xs) xs
finds_each R [] e = tt
finds_each {X = X} R (x ∷ xs) e = (
  (λ p is never. rw is refl),
  each_map (λ (y : X). R x y × Finds R xs y) (Finds R (x ∷ xs)) xs (λ y both p is never. finds_first R x xs y both.0 both.1 p is never (p x) refl)
      (each_both (R x) (Finds R xs) xs e.0 (finds_each R xs e.1)),
)

pub each_all : {X : Type 0} (P : X → Type 0) (xs : List X) → ((x : X) → P x) → Each P xs
each_all P [] f = tt
each_all P (x ∷ xs) f = (f x, each_all P xs f)

pub each_swap : {X Y : Type 0} (P : X → Y → Type 0) (xs : List X) (ys : List Y) → Each (λ x. Each (P x) ys) xs → Each (λ y. Each (λ x. P x y) xs) ys
each_swap P [] ys e = each_all _ ys (λ y. tt)
each_swap P (x ∷ xs) ys e = each_both (P x) _ ys e.0 (each_swap P xs ys e.1)

none_first : {X : Type 0} (p : X → Bool) (x : X) (xs : List X) (b : Bool) → p x ≡ b → (p x ≡ true → ⊥) → find p xs ≡ None → cond b (Some x) (find p xs) ≡ None
none_first p x xs true h never rest = absurd (never h)
none_first p x xs false h never rest = rest

-- a search finds nothing if nothing passes
pub none_found : {X : Type 0} (p : X → Bool) (xs : List X) → Each (λ x. p x ≡ true → ⊥) xs → find p xs ≡ None
none_found p [] e = refl
none_found p (x ∷ xs) e = none_first p x xs (p x) refl e.0 (none_found p xs e.1)

pub pair_map : {X : Type 0} (R S : X → X → Type 0) (xs : List X) → ((x y : X) → R x y → S x y) → EachPair R xs → EachPair S xs
pair_map R S [] f e = tt
pair_map R S (x ∷ xs) f e = (each_map (R x) (S x) xs (f x) e.0, pair_map R S xs f e.1)

-- ---- all elements but one
or_false : (a b : Bool) → (a || b) ≡ false → (a ≡ false) × (b ≡ false)
or_false true b h = cc
or_false false b h = (refl, h)

-- if none of some items passes a test, no item of them does
any_free : {X : Type 0} (p : X → Bool) (xs : List X) (d : X) (k : ℕ) → list_any p xs ≡ false → k < length xs → p (get_or xs k d) ≡ false
any_free p [] d k none lt = absurd (omega arith)
any_free p (x ∷ xs) d zero none lt = (or_false (p x) (list_any p xs) none).0
any_free p (x ∷ xs) d (suc k) none lt = any_free p xs d k (or_false (p x) (list_any p xs) none).1 (omega arith)

-- the same for all items but one
pub others_free : {X : Type 0} (p : X → Bool) (xs : List X) (d : X) (i k : ℕ) → list_any p (take i xs ++ drop (suc i) xs) ≡ false → k < length xs → (k ≡ i → ⊥) → p (get_or xs k d) ≡ false
others_free p [] d i k none lt ne = absurd (omega arith)
others_free p (x ∷ xs) d zero zero none lt ne = absurd (ne refl)
others_free p (x ∷ xs) d zero (suc k) none lt ne = any_free p xs d k none (omega arith)
others_free p (x ∷ xs) d (suc i) zero none lt ne = (or_false (p x) (list_any p (take i xs ++ drop (suc i) xs)) none).0
others_free p (x ∷ xs) d (suc i) (suc k) none lt ne = others_free p xs d i k (or_false (p x) (list_any p (take i xs ++ drop (suc i) xs)) none).1 (omega arith) (λ e. ne (ap (λ (n : ℕ). suc n) e))

none_of : {X : Type 0} (p : X → Bool) (xs : List X) (d : X) → ((k : ℕ) → k < length xs → p (get_or xs k d) ≡ false) → list_any p xs ≡ false
none_of p [] d never = refl
none_of p (x ∷ xs) d never = rw (never zero (omega arith)) (none_of p xs d (λ k lt. never (suc k) (omega arith)))

pub none_of_others : {X : Type 0} (p : X → Bool) (xs : List X) (d : X) (i : ℕ) → ((k : ℕ) → k < length xs → (k ≡ i → ⊥) → p (get_or xs k d) ≡ false) → list_any p (take i xs ++ drop (suc i) xs) ≡ false
none_of_others p [] d zero never = refl
none_of_others p [] d (suc i) never = refl
none_of_others p (x ∷ xs) d zero never = none_of p xs d (λ k lt. never (suc k) (omega arith) (λ e. cc))
none_of_others p (x ∷ xs) d (suc i) never =
    rw (never zero (omega arith) (λ e. cc)) (none_of_others p xs d i (λ k lt ne. never (suc k) (omega arith) (λ e. ne (omega (arith, e)))))

pub one_of_others : {X : Type 0} (p : X → Bool) (xs : List X) (d : X) (i k : ℕ) → k < length xs → (k ≡ i → ⊥) → p (get_or xs k d) ≡ true → list_any p (take i xs ++ drop (suc i) xs) ≡ true
one_of_others p xs d i k lt ne passes = by (list_any p (take i xs ++ drop (suc i) xs)) refl
  where
    by : (b : Bool) → list_any p (take i xs ++ drop (suc i) xs) ≡ b → b ≡ true
    by true is = refl
    by false is = let free = others_free p xs d i k is lt ne in cc
