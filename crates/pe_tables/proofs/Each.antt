-- Tests and values of the first n numbers, number by number.
use Rattle.std.proofs.Common.{◌≡◌, ℕ, zero, suc, ◌+◌, ◌-◌, ◌<◌, List, [], ◌∷◌, ◌++◌, Option, Some, None, refl, sym, ap, ◌∙◌, append-nil, arith}
use Rattle.std.specs.Prelude.{option_to_list}
use Rattle.std.specs.List.{flat_map, filter_map, range_with_len}
use Rattle.std.proofs.lemmas.Grind.{flat_map-append}
use Rattle.std.proofs.lemmas.List.Elements.{filter_map-append}
use Rattle.pe_view.specs.declared.fault.Fault.{Fault}
use Rattle.pe_view.specs.Faults.{Test, first_standing}
use Rattle.pe_view.specs.FirstStanding.{first-past, first-in}
use Rattle.pe_tables.specs.ExportFaults.{each_tests}
use Rattle.pe_tables.proofs.Entries.{filter_map-cons}

pub range-split : (from m n : ℕ) → range_with_len from (m + n) ≡ range_with_len from m ++ range_with_len (from + m) n
range-split from zero n =
    let a : zero + n ≡ n = omega arith in
    let b : from + zero ≡ from = omega arith in
    ap (range_with_len from) a ∙ ap (λ (k : ℕ). range_with_len k n) (sym b)
range-split from (suc m) n =
    let a : suc m + n ≡ suc (m + n) = omega arith in
    let b : from + 1 + m ≡ from + suc m = omega arith in
    ap (range_with_len from) a ∙ ap (λ (ks : List ℕ). from ∷ ks) (range-split (from + 1) m n ∙ ap (λ (k : ℕ). range_with_len (from + 1) m ++ range_with_len k n) b)

-- the first k numbers and n more
pub range-parts : (k n : ℕ) → range_with_len 0 (k + n) ≡ range_with_len 0 k ++ range_with_len k n
range-parts k n = let at : 0 + k ≡ k = omega arith in range-split 0 k n ∙ ap (λ (from : ℕ). range_with_len 0 k ++ range_with_len from n) at

pub range-push : (n : ℕ) → range_with_len 0 (n + 1) ≡ range_with_len 0 n ++ n ∷ []
range-push n = range-parts n 1

pub each-none : (tests : ℕ → List Test) → first_standing (each_tests tests 0) ≡ None
unfolding each_tests
each-none tests = refl

module _ (tests : ℕ → List Test) (k : ℕ) (none : first_standing (each_tests tests k) ≡ None) where
  -- no test of the first k holds, nor one of the next
  pub each-more : first_standing (tests k) ≡ None → first_standing (each_tests tests (k + 1)) ≡ None
  unfolding each_tests
  each-more next =
      ap (λ (ks : List ℕ). first_standing (flat_map tests ks)) (range-push k)
      ∙ ap first_standing (flat_map-append tests (range_with_len 0 k) (k ∷ []))
      ∙ first-past (flat_map tests (range_with_len 0 k)) (tests k ++ []) none
      ∙ ap first_standing (append-nil (tests k)) ∙ next

  -- a test of the next holds
  pub each-in : (n : ℕ) (fault : Fault) → k < n → first_standing (tests k) ≡ Some fault → first_standing (each_tests tests n) ≡ Some fault
  unfolding each_tests
  each-in n fault lt next =
      let left : List ℕ = range_with_len (k + 1) (n - k - 1) in
      let parts : n ≡ k + suc (n - k - 1) = omega arith in
      ap (λ (m : ℕ). first_standing (flat_map tests (range_with_len 0 m))) parts
      ∙ ap (λ (ks : List ℕ). first_standing (flat_map tests ks)) (range-parts k (suc (n - k - 1)))
      ∙ ap first_standing (flat_map-append tests (range_with_len 0 k) (k ∷ left))
      ∙ first-past (flat_map tests (range_with_len 0 k)) (tests k ++ flat_map tests left) none
      ∙ first-in (tests k) (flat_map tests left) fault next

pub given-push : {Y : Type 0} (f : ℕ → Option Y) (k : ℕ) → filter_map f (range_with_len 0 (k + 1)) ≡ filter_map f (range_with_len 0 k) ++ option_to_list (f k)
given-push f k =
    ap (filter_map f) (range-push k) ∙ filter_map-append f (range_with_len 0 k) (k ∷ [])
    ∙ ap (λ ys. filter_map f (range_with_len 0 k) ++ ys) (filter_map-cons f k [] ∙ append-nil (option_to_list (f k)))
