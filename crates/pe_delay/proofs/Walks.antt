-- Items before the first that fails a test, one after the other.
use Rattle.std.proofs.Common.{◌≡◌, ◌∙◌, ℕ, suc, ◌+◌, ◌-◌, ◌<◌, ◌≤◌, Bool, true, false, cond, List, [], ◌∷◌, length, ap, arith}
use Rattle.std.specs.Prelude.{map, take_while}
use Rattle.std.specs.List.{prefix_len, range_with_len}
use Rattle.std.proofs.lemmas.List.Sums.{prefix_len-le-length, take_while-cons}
use Rattle.std.proofs.lemmas.List.{length-take-le}
use Rattle.std.proofs.lemmas.List.FromFn.{length-map-range_with_len}

module _ {X : Type 0} (p : X → Bool) (f : ℕ → X) where
  abbrev left : ℕ → ℕ → List X
  left n k = take_while p (map f (range_with_len k (n - k)))

  step : (n k : ℕ) → k < n → left n k ≡ cond (p (f k)) (f k ∷ left n (k + 1)) []
  step n k lt =
      let more : n - k ≡ suc (n - (k + 1)) = omega arith in
      ap (λ (m : ℕ). take_while p (map f (range_with_len k m))) more
      ∙ take_while-cons p (f k) (map f (range_with_len (k + 1) (n - (k + 1))))

  -- an item passes
  pub one_more : (n k : ℕ) → k < n → p (f k) ≡ true → take_while p (map f (range_with_len k (n - k))) ≡ f k ∷ take_while p (map f (range_with_len (k + 1) (n - (k + 1))))
  one_more n k lt is = step n k lt ∙ ap (λ (b : Bool). cond b (f k ∷ left n (k + 1)) []) is

  -- one fails
  pub none_here : (n k : ℕ) → k < n → p (f k) ≡ false → take_while p (map f (range_with_len k (n - k))) ≡ []
  none_here n k lt not_it = step n k lt ∙ ap (λ (b : Bool). cond b (f k ∷ left n (k + 1)) []) not_it

  -- there is no further one
  pub none_left : (n k : ℕ) → n ≤ k → take_while p (map f (range_with_len k (n - k))) ≡ []
  none_left n k le = let none : n - k ≡ 0 = omega arith in ap (λ (m : ℕ). take_while p (map f (range_with_len k m))) none

  -- no more pass than there are
  pub items_few : (n k : ℕ) → length (take_while p (map f (range_with_len k (n - k)))) ≤ n - k
  items_few n k =
      let xs : List X = map f (range_with_len k (n - k)) in
      let le = prefix_len-le-length p xs in
      let len = length-take-le (prefix_len p xs) xs le in
      let whole = length-map-range_with_len f k (n - k) in
      omega (arith, le, len, whole)
