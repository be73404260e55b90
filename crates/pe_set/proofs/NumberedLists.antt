-- Lists made of numbered items: what is made of their items, and of items that are made of others.
use Rattle.std.proofs.Common.{◌≡◌, ◌∙◌, ◌+◌, ◌<◌, ◌≤◌, ℕ, zero, suc, List, [], ◌∷◌, ◌++◌, map, Bool, true, false, cond, length, Option, None, Some, refl, sym, ap, subst, arith, append_assoc}
use Rattle.std.specs.Prelude.{slice_get, filter, All, AllPairs}
use Rattle.std.specs.List.{cons_option, filter_map, flat_map}
use Rattle.std.proofs.lemmas.List.Elements.{All-nil, All-cons, All-map, filter-append, filter_map-append}
use Rattle.std.proofs.lemmas.List.Kept.{AllPairs-cons}
use Rattle.std.proofs.lemmas.Option.{same_Some}
use Rattle.pe_set.specs.Numbered.{numbered}
use Rattle.pe_set.proofs.Gathered.{all_got, got_all, all_numbered, pairs_head, pairs_tail, AllPairs-nil, AllPairs-append}

-- ---- the same lists
pub flat_map-append : {X Y : Type 0} (f : X → List Y) (xs ys : List X) → flat_map f (xs ++ ys) ≡ flat_map f xs ++ flat_map f ys
flat_map-append f [] ys = refl
flat_map-append f (x ∷ xs) ys = ap (λ zs. f x ++ zs) (flat_map-append f xs ys) ∙ sym (append_assoc (f x) (flat_map f xs) (flat_map f ys))

pub flat_map-same : {X Y : Type 0} (f g : X → List Y) → ((x : X) → f x ≡ g x) → (xs : List X) → flat_map f xs ≡ flat_map g xs
flat_map-same f g same [] = refl
flat_map-same f g same (x ∷ xs) = ap (λ zs. zs ++ flat_map f xs) (same x) ∙ ap (λ zs. g x ++ zs) (flat_map-same f g same xs)

pub filter_map-same : {X Y : Type 0} (f g : X → Option Y) → ((x : X) → f x ≡ g x) → (xs : List X) → filter_map f xs ≡ filter_map g xs
filter_map-same f g same [] = refl
filter_map-same f g same (x ∷ xs) = ap (λ o. cons_option o (filter_map f xs)) (same x) ∙ ap (cons_option (g x)) (filter_map-same f g same xs)

pub numbered-map : {X Y Z : Type 0} (f : ℕ → Y → List Z) (g : X → Y) (n : ℕ) (xs : List X) → numbered f n (map g xs) ≡ numbered (λ i x. f i (g x)) n xs
numbered-map f g n [] = refl
numbered-map f g n (x ∷ xs) = ap (λ zs. f n (g x) ++ zs) (numbered-map f g (n + 1) xs)

pub numbered-same : {X Y : Type 0} (f g : ℕ → X → List Y) → ((i : ℕ) (x : X) → f i x ≡ g i x) → (n : ℕ) (xs : List X) → numbered f n xs ≡ numbered g n xs
numbered-same f g same n [] = refl
numbered-same f g same n (x ∷ xs) = ap (λ zs. zs ++ numbered f (n + 1) xs) (same n x) ∙ ap (λ zs. g n x ++ zs) (numbered-same f g same (n + 1) xs)

-- ---- what is made of numbered items
pub numbered-flat_map : {X Y Z : Type 0} (g : Y → List Z) (f : ℕ → X → List Y) (n : ℕ) (xs : List X) → flat_map g (numbered f n xs) ≡ numbered (λ i x. flat_map g (f i x)) n xs
numbered-flat_map g f n [] = refl
numbered-flat_map g f n (x ∷ xs) = flat_map-append g (f n x) (numbered f (n + 1) xs) ∙ ap (λ zs. flat_map g (f n x) ++ zs) (numbered-flat_map g f (n + 1) xs)

pub numbered-filter_map : {X Y Z : Type 0} (g : Y → Option Z) (f : ℕ → X → List Y) (n : ℕ) (xs : List X) → filter_map g (numbered f n xs) ≡ numbered (λ i x. filter_map g (f i x)) n xs
numbered-filter_map g f n [] = refl
numbered-filter_map g f n (x ∷ xs) = filter_map-append g (f n x) (numbered f (n + 1) xs) ∙ ap (λ zs. filter_map g (f n x) ++ zs) (numbered-filter_map g f (n + 1) xs)

pub numbered-filter : {X Y : Type 0} (p : Y → Bool) (f : ℕ → X → List Y) (n : ℕ) (xs : List X) → filter p (numbered f n xs) ≡ numbered (λ i x. filter p (f i x)) n xs
numbered-filter p f n [] = refl
numbered-filter p f n (x ∷ xs) = filter-append p (f n x) (numbered f (n + 1) xs) ∙ ap (λ zs. filter p (f n x) ++ zs) (numbered-filter p f (n + 1) xs)

-- ---- element by element, and pair by pair
pub few_kept : {X : Type 0} (p : X → Bool) (xs : List X) → length (filter p xs) ≤ length xs
few_kept p [] = omega arith
few_kept p (x ∷ xs) = step (p x) (few_kept p xs)
  where
    step : (b : Bool) → length (filter p xs) ≤ length xs → length (cond b (x ∷ filter p xs) (filter p xs)) ≤ length (x ∷ xs)
    step true le = omega (arith, le)
    step false le = omega (arith, le)

-- an item of a list that is made of another
pub got_mapped : {X Y : Type 0} (g : X → Y) (xs : List X) (j : ℕ) (y : Y) → slice_get (map g xs) j ≡ Some y → (x : X) × (slice_get xs j ≡ Some x) × (y ≡ g x)
got_mapped g [] j y at = absurd cc
got_mapped g (x ∷ xs) zero y at = (x, refl, sym (same_Some (g x) y at))
got_mapped g (x ∷ xs) (suc j) y at = got_mapped g xs j y at

pub pairs_mapped : {X Y : Type 0} (R : Y → Y → Type 0) (g : X → Y) (xs : List X) → AllPairs (λ x y. R (g x) (g y)) xs → AllPairs R (map g xs)
pairs_mapped R g [] pairs = AllPairs-nil R
pairs_mapped R g (x ∷ xs) pairs =
    AllPairs-cons R (g x) (map g xs) (All-map (R (g x)) g xs (pairs_head (λ a b. R (g a) (g b)) x xs pairs)) (pairs_mapped R g xs (pairs_tail (λ a b. R (g a) (g b)) x xs pairs))

-- two items, and two of one item, that numbered items give
pub pairs_numbered : {X Y : Type 0} (R : Y → Y → Type 0) (f : ℕ → X → List Y) (n : ℕ) (xs : List X)
    → ((i : ℕ) (x : X) → slice_get xs i ≡ Some x → AllPairs R (f (n + i) x))
    → ((i j : ℕ) (x y : X) → i < j → slice_get xs i ≡ Some x → slice_get xs j ≡ Some y → All (λ a. All (R a) (f (n + j) y)) (f (n + i) x))
    → AllPairs R (numbered f n xs)
pairs_numbered R f n [] own pairs = AllPairs-nil R
pairs_numbered {Y = Y} R f n (x ∷ xs) own pairs =
    let here : n + zero ≡ n = omega arith in
    AllPairs-append R (f n x) (numbered f (n + 1) xs)
    (subst (λ (k : ℕ). AllPairs R (f k x)) here (own zero x refl))
    (pairs_numbered R f (n + 1) xs
    (λ i y at. let there : n + suc i ≡ n + 1 + i = omega arith in subst (λ (k : ℕ). AllPairs R (f k y)) there (own (suc i) y at))
    (λ i j y z lt at_i at_j.
    let there_i : n + suc i ≡ n + 1 + i = omega arith in
    let there_j : n + suc j ≡ n + 1 + j = omega arith in
    subst (λ (k : ℕ). All (λ a. All (R a) (f (n + 1 + j) z)) (f k y)) there_i
    (subst (λ (k : ℕ). All (λ a. All (R a) (f k z)) (f (n + suc i) y)) there_j (pairs (suc i) (suc j) y z (omega (arith, lt)) at_i at_j))))
    (all_got (λ a. All (R a) (numbered f (n + 1) xs)) (f n x) (λ k a at.
    all_numbered (R a) f (n + 1) xs (λ j y at_j.
    let there : n + suc j ≡ n + 1 + j = omega arith in
    got_all (λ b. All (R b) (f (n + 1 + j) y)) (f n x) k a
    (subst (λ (i : ℕ). All (λ b. All (R b) (f (n + 1 + j) y)) (f i x)) here
    (subst (λ (i : ℕ). All (λ b. All (R b) (f i y)) (f (n + zero) x)) there (pairs zero (suc j) x y (omega arith) refl at_j)))
    at)))
