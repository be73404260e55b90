-- A symmetric relation of all pairs does not depend on the order of a list.
use Rattle.std.proofs.Common.{◌≡◌, ◌≢◌, ℕ, ◌<◌, ◌⊎◌, List, length, get_or, refl, sym, subst, arith, inl, inr}
use Rattle.std.specs.Prelude.{AllPairs}
use Rattle.std.specs.List.{swap}
use Rattle.std.specs.List.Sorted.{IsPermutation}
use Rattle.std.proofs.lemmas.Bool.{cases_eq, cases_lt}
use Rattle.std.proofs.lemmas.List.Edits.{Swapped, swapped_from_swap, length-swap}
use Rattle.std.proofs.lemmas.List.Sorted.{IsPermutation-keeps}

module _ {X : Type 0} (R : X → X → Type 0) (back : (x y : X) → R x y → R y x) where
  -- any two places
  abbrev Everywhere : List X → Type 0
  Everywhere xs = (i j : ℕ) (d : X) → i ≢ j → i < length xs → j < length xs → R (get_or xs i d) (get_or xs j d)

  everywhere : (xs : List X) → AllPairs R xs → Everywhere xs
  everywhere xs pairs = λ i j d ne low high. elim (cases_lt i j) [
    | inl before ↦ pairs i j d before high
    | inr behind ↦ (let less : j < i = omega (arith, ne) in back (get_or xs j d) (get_or xs i d) (pairs j i d less low))
  ]

  -- where the element at a place was before two places were swapped
  abbrev Was : ℕ → ℕ → ℕ → ℕ → Type 0
  Was a b m n = ((m ≡ a) × (n ≡ b)) ⊎ (((m ≢ a) × (m ≡ b) × (n ≡ a)) ⊎ ((m ≢ a) × (m ≢ b) × (n ≡ m)))

  was_at : (a b m : ℕ) → (n : ℕ) × Was a b m n
  was_at a b m = elim (cases_eq m a) [
    | inl first ↦ (b, inl (first, refl))
    | inr other ↦ (elim (cases_eq m b) [
      | inl second ↦ (a, inr (inl (other, second, refl)))
      | inr neither ↦ (m, inr (inr (other, neither, refl)))
    ])
  ]

  differ : (a b i j s t : ℕ) → Was a b i s → Was a b j t → i ≢ j → s ≢ t
  differ a b i j s t (inl p) (inl q) ne = λ same. (let e = p.0 in let f = q.0 in ne (omega (arith, e, f)))
  differ a b i j s t (inl p) (inr (inl q)) ne = λ same. (let e = p.1 in let f = q.2 in let g = p.0 in let h = q.1 in ne (omega (arith, e, f, g, h, same)))
  differ a b i j s t (inl p) (inr (inr q)) ne = λ same. (let e = p.1 in let f = q.2 in let g = q.1 in g (omega (arith, e, f, same)))
  differ a b i j s t (inr (inl p)) (inl q) ne = λ same. (let e = p.2 in let f = q.1 in let g = p.1 in let h = q.0 in ne (omega (arith, e, f, g, h, same)))
  differ a b i j s t (inr (inl p)) (inr (inl q)) ne = λ same. (let e = p.1 in let f = q.1 in ne (omega (arith, e, f)))
  differ a b i j s t (inr (inl p)) (inr (inr q)) ne = λ same. (let e = p.2 in let f = q.2 in let g = q.0 in g (omega (arith, e, f, same)))
  differ a b i j s t (inr (inr p)) (inl q) ne = λ same. (let e = p.2 in let f = q.1 in let g = p.1 in g (omega (arith, e, f, same)))
  differ a b i j s t (inr (inr p)) (inr (inl q)) ne = λ same. (let e = p.2 in let f = q.2 in let g = p.0 in g (omega (arith, e, f, same)))
  differ a b i j s t (inr (inr p)) (inr (inr q)) ne = λ same. (let e = p.2 in let f = q.2 in ne (omega (arith, e, f, same)))

  within : (n a b m s : ℕ) → a < n → b < n → m < n → Was a b m s → s < n
  within n a b m s low high lt (inl p) = let e = p.1 in omega (arith, e)
  within n a b m s low high lt (inr (inl p)) = let e = p.2 in omega (arith, e)
  within n a b m s low high lt (inr (inr p)) = let e = p.2 in omega (arith, e)

  moved : (f g : ℕ → X) (a b m s : ℕ) → Swapped f g a b → Was a b m s → f s ≡ g m
  moved f g a b m s swapped (inl p) = rw (p.0, p.1) (sym swapped.0)
  moved f g a b m s swapped (inr (inl p)) = rw (p.1, p.2) (sym swapped.1)
  moved f g a b m s swapped (inr (inr p)) = rw p.2 (sym (swapped.2 m p.0 p.1))

  step : (xs : List X) (a b : ℕ) → a < length xs → b < length xs → Everywhere xs → Everywhere (swap xs a b)
  step xs a b low high every = λ i j d ne lt lt'.
      let swapped = swapped_from_swap xs (swap xs a b) a b d low high refl in
      let n : length (swap xs a b) ≡ length xs = length-swap xs a b in
      let p = was_at a b i in
      let q = was_at a b j in
      let f : ℕ → X = λ k. get_or xs k d in
      let g : ℕ → X = λ k. get_or (swap xs a b) k d in
      let here : R (f p.0) (f q.0) = every p.0 q.0 d (differ a b i j p.0 q.0 p.1 q.1 ne)
      (within (length xs) a b i p.0 low high (omega (arith, lt, n)) p.1)
      (within (length xs) a b j q.0 low high (omega (arith, lt', n)) q.1) in
      subst (λ (x : X). R x (g j)) (moved f g a b i p.0 swapped p.1) (subst (λ (y : X). R (f p.0) y) (moved f g a b j q.0 swapped q.1) here)

  pub all_pairs-permutation : (xs ys : List X) → IsPermutation xs ys → AllPairs R xs → AllPairs R ys
  all_pairs-permutation xs ys permuted pairs =
      let every : Everywhere ys = IsPermutation-keeps xs Everywhere (everywhere xs pairs) step ys permuted in
      λ i j d lt high. every i j d (λ same. absurd (omega (arith, same, lt))) (omega (arith, lt, high)) high
