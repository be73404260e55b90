-- The first item of a list that has a property, found item by item.
use Rattle.std.proofs.Common.{◌≡◌, ◌∙◌, ℕ, zero, suc, ◌+◌, Bool, true, false, List, [], ◌∷◌, drop, None, Option, Some, refl, sym, ap, arith}
use Rattle.std.proofs.lemmas.Option.{same_Some}
use Rattle.std.specs.List.{find}
use Rattle.std.specs.Prelude.{slice_get, option_map, is_some}

-- it is the item at an index, of the items from there on
pub found_at : {X : Type 0} (p : X → Bool) (xs : List X) (i : ℕ) (x : X) → slice_get xs i ≡ Some x → p x ≡ true → find p (drop i xs) ≡ Some x
found_at p [] i x is holds = absurd cc is
found_at p (y ∷ xs) zero x is holds = let same = same_Some y x is in rw (same, holds) refl
found_at p (y ∷ xs) (suc i) x is holds = found_at p xs i x is holds

after : {X : Type 0} (p : X → Bool) (xs : List X) (i : ℕ) (x : X) → slice_get xs i ≡ Some x → p x ≡ false → find p (drop i xs) ≡ find p (drop (suc i) xs)
after p [] i x is fails = absurd cc is
after p (y ∷ xs) zero x is fails = let same = same_Some y x is in rw (same, fails) refl
after p (y ∷ xs) (suc i) x is fails = after p xs i x is fails

-- or it is after that
pub found_later : {X : Type 0} (p : X → Bool) (xs : List X) (i : ℕ) (x : X) → slice_get xs i ≡ Some x → p x ≡ false → find p (drop i xs) ≡ find p (drop (i + 1) xs)
found_later p xs i x is fails = let next : suc i ≡ i + 1 = omega arith in after p xs i x is fails ∙ ap (λ (n : ℕ). find p (drop n xs)) next

-- what shows something is there if that is
pub shown_some : {X Y : Type 0} (f : X → Y) (found : Option X) (shown : Option Y) → option_map f found ≡ shown → is_some shown ≡ is_some found
shown_some f None shown is = ap is_some (sym is)
shown_some f (Some x) shown is = ap is_some (sym is)
