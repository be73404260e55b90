-- Lists, item by item.
use Rattle.std.proofs.Common.{◌≡◌, ◌∙◌, ℕ, zero, suc, ◌+◌, ◌<◌, ◌≤◌, ◌^◌, List, [], ◌∷◌, ◌++◌, length, drop, get_or, refl, ap, arith}
use Rattle.std.specs.Prelude.{map, Result, Ok, Err, OnOk, if◌then◌else◌}
use Rattle.std.specs.Result.{is_ok}
use Rattle.std.specs.List.{flat_map, All, AllByRecursion}
use Rattle.std.proofs.Math.Seq.{drop-cons}
use Rattle.std.proofs.lemmas.List.{drop_all}
use Rattle.coff_library.specs.Sizes.{counted}

-- of the values of items
pub flat_map-map : {X Y Z : Type 0} (f : Y → List Z) (g : X → Y) (xs : List X) → flat_map f (map g xs) ≡ flat_map (λ x. f (g x)) xs
flat_map-map f g [] = refl
flat_map-map f g (x ∷ xs) = ap (λ (zs : List _). f (g x) ++ zs) (flat_map-map f g xs)

-- all items are counted
pub all_counted : {X : Type 0} (f : List X → ℕ) (xs : List X) (i done whole : ℕ) → length xs ≤ i → done < 2 ^ 64 → f [] ≡ 0 → counted (done + f (drop i xs)) ≡ counted whole → done ≡ counted whole
all_counted f xs i done whole le small none sum =
    let rest = ap f (drop_all i xs le) in
    omega (arith, rest, none, sum, small)

-- what holds of the values of all items holds of that of one
pub at_item : {X Y : Type 0} (P : Y → Type 0) (f : X → Y) (xs : List X) (i : ℕ) (d : X) → All P (map f xs) → i < length xs → P (f (get_or xs i d))
at_item P f [] i d all lt = absurd (omega (arith, lt))
at_item P f (x ∷ xs) zero d all lt = all 0 (f x) (omega arith)
at_item P f (x ∷ xs) (suc i) d all lt = at_item P f xs i d (λ k e l. all (suc k) e (omega (arith, l))) (omega (arith, lt))

-- items of two lists that have the same values
pub same_at : {X Y Z : Type 0} (f : X → Z) (g : Y → Z) (xs : List X) (ys : List Y) (i : ℕ) (x : X) (d : Y) → map f xs ≡ map g ys → i < length ys → x ≡ get_or xs i x → f x ≡ g (get_or ys i d)
same_at f g xs [] i x d same lt is = absurd (omega (arith, lt))
same_at f g [] (y ∷ ys) i x d same lt is = absurd cc
same_at f g (z ∷ xs) (y ∷ ys) zero x d same lt is =
    let here : f z ≡ g y = cc in
    ap f is ∙ here
same_at f g (z ∷ xs) (y ∷ ys) (suc i) x d same lt is =
    let rest : map f xs ≡ map g ys = cc in
    same_at f g xs ys i x d rest (omega (arith, lt)) is

-- the values of the items from one of them on
pub view_left : {X Y : Type 0} (view : X → Y) (xs : List X) (i : ℕ) (d : X) → i < length xs → map view (drop i xs) ≡ view (get_or xs i d) ∷ map view (drop (i + 1) xs)
view_left view xs i d lt =
    let next : suc i ≡ i + 1 = omega arith in
    ap (map view) (drop-cons xs i d lt) ∙ ap (λ (n : ℕ). view (get_or xs i d) ∷ map view (drop n xs)) next

-- what is written where there is memory
pub on_ok_if : {T E : Type 0} (r : Result T E) (new one old whole : List ℕ) → new ≡ (if is_ok r then one else old) → one ≡ whole → OnOk r (new ≡ whole)
on_ok_if (Ok x) new one old whole is same = is ∙ same
on_ok_if (Err e) new one old whole is same = tt

-- what holds of all items holds of each
pub all_at : {X : Type 0} (P : X → Type 0) (xs : List X) (k : ℕ) (d : X) → AllByRecursion P xs → k < length xs → P (get_or xs k d)
all_at P [] k d all lt = absurd (omega (arith, lt))
all_at P (x ∷ xs) zero d all lt = all.0
all_at P (x ∷ xs) (suc k) d all lt = all_at P xs k d all.1 (omega (arith, lt))
