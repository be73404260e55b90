-- A list to which the items of another are pushed, one after the other.
use Rattle.std.proofs.Common.{◌≡◌, ◌∙◌, ℕ, ◌+◌, suc, ◌<◌, List, [], ◌∷◌, ◌++◌, drop, get_or, length, map, sym, ap, append_assoc, arith}
use Rattle.std.proofs.Math.Seq.{drop-cons}
use Rattle.std.proofs.lemmas.List.{map-append}

-- the next of those that are left is pushed
pub pushed_more : {X Z : Type 0} (f : X → Z) (done : List X) (x : X) (left rest all : List Z) → left ≡ f x ∷ rest → map f done ++ left ≡ all → map f (done ++ x ∷ []) ++ rest ≡ all
pushed_more {X} {Z} f done x left rest all next so_far =
    ap (λ (l : List Z). l ++ rest) (map-append f done (x ∷ []))
    ∙ append_assoc (map f done) (f x ∷ []) rest
    ∙ ap (λ (l : List Z). map f done ++ l) (sym next)
    ∙ so_far

-- those that are left, from one of them on
pub left_from : {Y Z : Type 0} (g : Y → Z) (ys : List Y) (i : ℕ) (d : Y) → i < length ys → map g (drop i ys) ≡ g (get_or ys i d) ∷ map g (drop (i + 1) ys)
left_from {Y} {Z} g ys i d less =
    let next : suc i ≡ i + 1 = omega arith in
    ap (map g) (drop-cons ys i d less) ∙ ap (λ (n : ℕ). g (get_or ys i d) ∷ map g (drop n ys)) next
