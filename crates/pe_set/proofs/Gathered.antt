-- What holds for each element, and for each two, of lists collected from the elements of others.
use Rattle.std.proofs.Common.{◌≡◌, ◌+◌, ◌*◌, ◌<◌, ◌≤◌, ℕ, zero, suc, List, [], ◌∷◌, ◌++◌, length, get_or, Option, None, Some, refl, subst, arith, length-append}
use Rattle.std.specs.Prelude.{slice_get, All, AllPairs}
use Rattle.std.specs.List.{cons_option, filter_map}
use Rattle.std.proofs.lemmas.List.Elements.{All-nil, All-cons, All-head, All-tail, All-append, All-get_or}
use Rattle.std.proofs.lemmas.List.Kept.{AllPairs-cons}
use Rattle.std.proofs.lemmas.Option.{slice_get-get_or, slice_get_within, get_or_from_slice_get}
use Rattle.pe_set.specs.Numbered.{numbered}

-- ---- element by element
pub all_got : {X : Type 0} (P : X → Type 0) (xs : List X) → ((i : ℕ) (x : X) → slice_get xs i ≡ Some x → P x) → All P xs
all_got P xs each = λ k d lt. each k (get_or xs k d) (slice_get-get_or xs k d lt)

pub got_all : {X : Type 0} (P : X → Type 0) (xs : List X) (i : ℕ) (x : X) → All P xs → slice_get xs i ≡ Some x → P x
got_all P xs i x all at = subst P (get_or_from_slice_get xs i x x at) (All-get_or P xs i x (slice_get_within xs i x at) all)

pub pairs_got : {X : Type 0} (R : X → X → Type 0) (xs : List X) → ((i j : ℕ) (x y : X) → i < j → slice_get xs i ≡ Some x → slice_get xs j ≡ Some y → R x y) → AllPairs R xs
pairs_got R xs each = λ i j d lt within. each i j (get_or xs i d) (get_or xs j d) lt (slice_get-get_or xs i d (omega (arith, lt, within))) (slice_get-get_or xs j d within)

-- ---- pairs
pub AllPairs-nil : {X : Type 0} (R : X → X → Type 0) → AllPairs R []
AllPairs-nil R = λ i j d lt within. absurd (omega (arith, within))

pub pairs_head : {X : Type 0} (R : X → X → Type 0) (x : X) (xs : List X) → AllPairs R (x ∷ xs) → All (R x) xs
pairs_head R x xs pairs = λ k d lt. pairs 0 (suc k) d (omega arith) (omega (arith, lt))

pub pairs_tail : {X : Type 0} (R : X → X → Type 0) (x : X) (xs : List X) → AllPairs R (x ∷ xs) → AllPairs R xs
pairs_tail R x xs pairs = λ i j d lt within. pairs (suc i) (suc j) d (omega (arith, lt)) (omega (arith, within))

pub AllPairs-append : {X : Type 0} (R : X → X → Type 0) (xs ys : List X) → AllPairs R xs → AllPairs R ys → All (λ x. All (R x) ys) xs → AllPairs R (xs ++ ys)
AllPairs-append R [] ys own later cross = later
AllPairs-append {X = X} R (x ∷ xs) ys own later cross =
    let each : X → Type 0 = λ z. All (R z) ys in
    AllPairs-cons R x (xs ++ ys)
    (All-append (R x) xs ys (pairs_head R x xs own) (All-head each x xs cross))
    (AllPairs-append R xs ys (pairs_tail R x xs own) later (All-tail each x xs cross))

-- ---- what some elements give
all_option : {Y : Type 0} (P : Y → Type 0) (o : Option Y) (ys : List Y) → ((y : Y) → o ≡ Some y → P y) → All P ys → All P (cons_option o ys)
all_option P None ys own all = all
all_option P (Some y) ys own all = All-cons P y ys (own y refl) all

pub all_given : {X Y : Type 0} (Q : X → Type 0) (P : Y → Type 0) (f : X → Option Y) → ((x : X) (y : Y) → Q x → f x ≡ Some y → P y) → (xs : List X) → All Q xs → All P (filter_map f xs)
all_given Q P f step [] all = All-nil P
all_given Q P f step (x ∷ xs) all = all_option P (f x) (filter_map f xs) (λ y is. step x y (All-head Q x xs all) is) (all_given Q P f step xs (All-tail Q x xs all))

pairs_option : {Y : Type 0} (R : Y → Y → Type 0) (o : Option Y) (ys : List Y) → ((y : Y) → o ≡ Some y → All (R y) ys) → AllPairs R ys → AllPairs R (cons_option o ys)
pairs_option R None ys own pairs = pairs
pairs_option R (Some y) ys own pairs = AllPairs-cons R y ys (own y refl) pairs

pub pairs_given : {X Y : Type 0} (Q : X → X → Type 0) (R : Y → Y → Type 0) (f : X → Option Y) → ((a b : X) (c d : Y) → Q a b → f a ≡ Some c → f b ≡ Some d → R c d)
    → (xs : List X) → AllPairs Q xs → AllPairs R (filter_map f xs)
pairs_given Q R f step [] pairs = AllPairs-nil R
pairs_given Q R f step (x ∷ xs) pairs =
    pairs_option R (f x) (filter_map f xs)
    (λ c is. all_given (Q x) (R c) f (λ b d q at. step x b c d q is at) xs (pairs_head Q x xs pairs))
    (pairs_given Q R f step xs (pairs_tail Q x xs pairs))

length_option : {Y : Type 0} (o : Option Y) (ys : List Y) → length (cons_option o ys) ≤ 1 + length ys
length_option None ys = omega arith
length_option (Some y) ys = omega arith

pub few_given : {X Y : Type 0} (f : X → Option Y) (xs : List X) → length (filter_map f xs) ≤ length xs
few_given f [] = omega arith
few_given f (x ∷ xs) =
    let more = few_given f xs in
    let one = length_option (f x) (filter_map f xs) in
    omega (arith, more, one)

-- ---- what elements give with their numbers
pub all_numbered : {X Y : Type 0} (P : Y → Type 0) (f : ℕ → X → List Y) (n : ℕ) (xs : List X) → ((i : ℕ) (x : X) → slice_get xs i ≡ Some x → All P (f (n + i) x)) → All P (numbered f n xs)
all_numbered P f n [] each = All-nil P
all_numbered P f n (x ∷ xs) each =
    All-append P (f n x) (numbered f (n + 1) xs)
    (let here : n + zero ≡ n = omega arith in subst (λ (k : ℕ). All P (f k x)) here (each zero x refl))
    (all_numbered P f (n + 1) xs (λ i y at. let there : n + suc i ≡ n + 1 + i = omega arith in subst (λ (k : ℕ). All P (f k y)) there (each (suc i) y at)))

pub few_numbered : {X Y : Type 0} (f : ℕ → X → List Y) (k n : ℕ) (xs : List X) → ((i : ℕ) (x : X) → slice_get xs i ≡ Some x → length (f (n + i) x) ≤ k) → length (numbered f n xs) ≤ length xs * k
few_numbered f k n [] each = omega arith
few_numbered f k n (x ∷ xs) each =
    let here : n + zero ≡ n = omega arith in
    let own = subst (λ (m : ℕ). length (f m x) ≤ k) here (each zero x refl) in
    let later = few_numbered f k (n + 1) xs (λ i y at. let there : n + suc i ≡ n + 1 + i = omega arith in subst (λ (m : ℕ). length (f m y) ≤ k) there (each (suc i) y at)) in
    let sum = length-append (f n x) (numbered f (n + 1) xs) in
    omega (arith, own, later, sum)
