-- A search by a number among pairs.
use Rattle.std.proofs.Common.{◌≡◌, ℕ, zero, suc, ◌<◌, ◌≤◌, Bool, true, false, List, [], ◌∷◌, length, get_or, Option, Some, None, refl, sym, ap, ◌∙◌, inl, inr, arith}
use Rattle.std.specs.Prelude.{◌==◌, map, option_map, if◌then◌else◌, AllPairs}
use Rattle.std.specs.List.{find}
use Rattle.std.proofs.lemmas.Bool.{false_from_ne_true, eqb-true, cases_lt, cases_eq}
use Rattle.std.proofs.lemmas.Bool.Decides.{nat_tests}

pub equal : (a b : ℕ) → a ≡ b → (a == b) ≡ true
equal a b e = grind (arith, nat_tests)

pub unequal : (a b : ℕ) → (a ≡ b → ⊥) → (a == b) ≡ false
unequal a b ne = false_from_ne_true (a == b) (λ e. ne (eqb-true a b e))

module _ {X : Type 0} (n : ℕ) where
  abbrev is_it : ℕ × X → Bool
  is_it pair = pair.0 == n

  pub found_at : (pairs : List (ℕ × X)) (k : ℕ) (d : ℕ × X) → k < length pairs → (get_or pairs k d).0 ≡ n → ((j : ℕ) → j < k → (get_or pairs j d).0 ≡ n → ⊥)
      → find is_it pairs ≡ Some (get_or pairs k d)
  found_at [] k d lt is before = absurd (omega arith)
  found_at (pair ∷ pairs) zero d lt is before = rw (equal pair.0 n is) refl
  found_at (pair ∷ pairs) (suc k) d lt is before =
      let passes : find is_it (pair ∷ pairs) ≡ find is_it pairs = rw (unequal pair.0 n (before 0 (omega arith))) refl in
      passes ∙ found_at pairs k d (omega arith) is (λ j below. before (suc j) (omega arith))

  pub found_nowhere : (pairs : List (ℕ × X)) (d : ℕ × X) → ((j : ℕ) → j < length pairs → (get_or pairs j d).0 ≡ n → ⊥) → find is_it pairs ≡ None
  found_nowhere [] d none = refl
  found_nowhere (pair ∷ pairs) d none =
      let passes : find is_it (pair ∷ pairs) ≡ find is_it pairs = rw (unequal pair.0 n (none 0 (omega arith))) refl in
      passes ∙ found_nowhere pairs d (λ j lt. none (suc j) (omega arith))

  -- if the pairs ascend and the one at an index is the first that is not below n, no pair has n unless that one does
  pub found_in_order : (pairs : List (ℕ × X)) (d : ℕ × X) (index : ℕ) → AllPairs (λ pair later. pair.0 < later.0) pairs → ((k : ℕ) (e : ℕ × X) → k < index → (get_or pairs k e).0 < n)
      → ((k : ℕ) (e : ℕ × X) → index ≤ k → k < length pairs → n ≤ (get_or pairs k e).0) → (index < length pairs → (get_or pairs index d).0 ≡ n → ⊥) → find is_it pairs ≡ None
  found_in_order pairs d index ascend before after other = found_nowhere pairs d (λ j lt is. elim (cases_lt j index) [
    | inl early ↦ (let less = before j d early in omega arith)
    | inr late ↦ elim (cases_eq j index) [
      | inl here ↦ other (omega arith) (ap (λ (k : ℕ). (get_or pairs k d).0) (sym here) ∙ is)
      | inr past ↦ (let less = ascend index j d (omega arith) lt in let least = after index d (omega arith) (omega arith) in omega arith)
    ]
  ])

  module _ {Y : Type 0} (f : X → Y) where
    abbrev made : ℕ × X → ℕ × Y
    made pair = (pair.0, f pair.1)

    abbrev second : Option (ℕ × X) → Option X
    second found = option_map (λ (pair : ℕ × X). pair.1) found

    abbrev search_made : List (ℕ × X) → Option Y
    search_made pairs = option_map (λ (pair : ℕ × Y). pair.1) (find (λ (pair : ℕ × Y). pair.0 == n) (map made pairs))

    step : (pair : ℕ × X) (pairs : List (ℕ × X)) (b : Bool) → is_it pair ≡ b → option_map f (second (find is_it pairs)) ≡ search_made pairs
        → option_map f (second (if b then Some pair else find is_it pairs)) ≡ option_map (λ (p : ℕ × Y). p.1) (if b then Some (made pair) else find (λ (p : ℕ × Y). p.0 == n) (map made pairs))
    step pair pairs true is rest = refl
    step pair pairs false is rest = rest

    -- what is made of the second of each pair is found in the same way
    pub found_mapped : (pairs : List (ℕ × X)) → option_map f (second (find is_it pairs)) ≡ search_made pairs
    found_mapped [] = refl
    found_mapped (pair ∷ pairs) = step pair pairs (is_it pair) refl (found_mapped pairs)
