-- The items of a list that are left, one item at a time.
use Rattle.std.proofs.Common.{◌≡◌, ◌∙◌, ℕ, zero, suc, ◌+◌, ◌<◌, ◌≤◌, List, [], ◌∷◌, ◌++◌, length, drop, get_or, refl, sym, ap, subst, length-append, arith}
use Rattle.std.specs.Prelude.{map}
use Rattle.std.specs.List.{AllByRecursion}
use Rattle.std.proofs.Math.Seq.{drop-cons}
use Rattle.std.proofs.lemmas.List.{drop_all}

-- the items from one of them on
pub items_left : {X Y : Type 0} (view : X → Y) (xs : List X) (i : ℕ) (x : X) → i < length xs → x ≡ get_or xs i x → map view (drop i xs) ≡ view x ∷ map view (drop (i + 1) xs)
items_left view xs i x lt is =
    let next : suc i ≡ i + 1 = omega arith in
    ap (map view) (drop-cons xs i x lt) ∙ ap (λ (y : _). view y ∷ map view (drop (suc i) xs)) (sym is) ∙ ap (λ (n : ℕ). view x ∷ map view (drop n xs)) next

-- what holds of all items that are left holds of the next one
pub all_left : {Y : Type 0} (P : Y → Type 0) (left more : List Y) (y : Y) → left ≡ y ∷ more → AllByRecursion P left → P y × AllByRecursion P more
all_left P left more y is all = subst (AllByRecursion P) is all

pub all_front : {Y : Type 0} (P : Y → Type 0) (left more : List Y) (y : Y) → left ≡ y ∷ more → P y → AllByRecursion P more → AllByRecursion P left
all_front P left more y is here later = subst (AllByRecursion P) (sym is) (here, later)

-- an item of a list of values
pub get_or_map : {X Y : Type 0} (f : X → Y) (xs : List X) (i : ℕ) (d : Y) (e : X) → i < length xs → get_or (map f xs) i d ≡ f (get_or xs i e)
get_or_map f [] i d e lt = absurd omega arith
get_or_map f (x ∷ xs) zero d e lt = refl
get_or_map f (x ∷ xs) (suc i) d e lt = get_or_map f xs i d e (omega arith)

-- the items from one of them on, where as many were yielded before it
pub items_yielded : {X Y Z : Type 0} (view : X → Y) (xs : List X) (yielded : List Z) (z : Z) (x : X) → length yielded < length xs → x ≡ get_or xs (length yielded) x
    → map view (drop (length yielded) xs) ≡ view x ∷ map view (drop (length (yielded ++ z ∷ [])) xs)
items_yielded view xs yielded z x lt is =
    items_left view xs (length yielded) x lt is ∙ ap (λ (n : ℕ). view x ∷ map view (drop n xs)) (sym (length-append yielded (z ∷ [])))

-- all items were yielded
pub none_left : {X Y : Type 0} (view : X → Y) (xs : List X) (n : ℕ) → length xs ≤ n → map view (drop n xs) ≡ []
none_left view xs n le = ap (map view) (drop_all n xs le)
