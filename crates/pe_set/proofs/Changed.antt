-- A list whose first elements were changed one by one.
use Rattle.std.proofs.Common.{◌≡◌, ◌∙◌, ◌+◌, ◌<◌, ℕ, List, [], ◌∷◌, ◌++◌, map, take, drop, length, get_or, sym, ap, arith, append_assoc}
use Rattle.std.specs.Prelude.{slice_set}
use Rattle.std.proofs.lemmas.List.{length-map, length-take-le, get_or_at, map-append, set_at, take_more}
use Rattle.pe_set.proofs.Asking.{next_item}

module _ {X : Type 0} (f : X → X) (s : List X) (i : ℕ) (d : X) (lt : i < length s) where
  front : length (map f (take i s)) ≡ i
  front = length-map (take i s) f ∙ length-take-le i s (omega (arith, lt))

  pub parted : map f (take i s) ++ drop i s ≡ map f (take i s) ++ get_or s i d ∷ drop (i + 1) s
  parted = ap (λ xs. map f (take i s) ++ xs) (next_item s i d lt)

  -- element i is as it was
  pub unchanged : (xs : List X) → xs ≡ map f (take i s) ++ drop i s → get_or xs i d ≡ get_or s i d
  unchanged xs is = ap (λ xs. get_or xs i d) (is ∙ parted) ∙ get_or_at (map f (take i s)) (get_or s i d) (drop (i + 1) s) d i front

  -- it is changed
  pub changed : (xs : List X) → xs ≡ map f (take i s) ++ drop i s → slice_set xs i (f (get_or s i d)) ≡ map f (take (i + 1) s) ++ drop (i + 1) s
  changed xs is =
      ap (λ xs. slice_set xs i (f (get_or s i d))) (is ∙ parted)
      ∙ set_at (map f (take i s)) (get_or s i d) (drop (i + 1) s) (f (get_or s i d)) i front
      ∙ sym (append_assoc (map f (take i s)) (f (get_or s i d) ∷ []) (drop (i + 1) s))
      ∙ ap (λ xs. xs ++ drop (i + 1) s) (sym (ap (map f) (take_more s i d lt) ∙ map-append f (take i s) (get_or s i d ∷ [])))
