-- Slots of one width, as ranges.
use Rattle.std.proofs.Common.{◌≡◌, ℕ, ◌<◌, Bool, false, not, List, [], ◌∷◌, length, get_or, refl, ap, ◌∙◌, arith, inl, inr}
use Rattle.std.specs.Prelude.{All, ◌==◌, ◌||◌}
use Rattle.std.specs.List.{list_any}
use Rattle.std.proofs.lemmas.Bool.{cases_Bool}
use Rattle.std.proofs.lemmas.Bool.Decides.{nat_tests}
use Rattle.std.proofs.lemmas.List.Folds.{list_any_at}
use Rattle.pe_ranges.specs.Ranges.{FitsBeside, SameRanges}
use Rattle.pe_tables.specs.Imports.{Import}
use Rattle.pe_set.specs.DelayedImports.{slot_ranges}

-- no element passes a test that none passes
none_at : {X : Type 0} (p : X → Bool) (xs : List X) (k : ℕ) (d : X) → list_any p xs ≡ false → k < length xs → p (get_or xs k d) ≡ false
none_at p xs k d none lt = elim (cases_Bool (p (get_or xs k d))) [
  | inl passes ↦ (let some = list_any_at p xs k d lt passes in absurd cc)
  | inr fails ↦ fails
]

beside_equal : (start len : ℕ) (range : ℕ × ℕ) → len ≡ range.1 → FitsBeside start len range
beside_equal start len range e = record { above = λ before. omega arith; below = λ after. omega arith; same = λ _. e }

equal : (a b : ℕ) → not (a == b) ≡ false → b ≡ a
equal a b e = grind (arith, nat_tests)

equal_self : (a : ℕ) → not (a == a) ≡ false
equal_self a = grind (arith, nat_tests)

-- a range as long as all others fits beside them
pub all_equal : (start len : ℕ) (ranges : List (ℕ × ℕ)) → list_any (λ range. not (range.1 == len)) ranges ≡ false → All (FitsBeside start len) ranges
all_equal start len ranges none = λ k d lt.
    beside_equal start len (get_or ranges k d) (let e = none_at (λ (range : ℕ × ℕ). not (range.1 == len)) ranges k d none lt in equal (get_or ranges k d).1 len e)

-- slots of one width are all as long
pub slots_equal : (width : ℕ) (xs : List Import) → list_any (λ range. not (range.1 == width)) (slot_ranges width xs) ≡ false
slots_equal width [] = refl
slots_equal width (x ∷ xs) = ap (λ b. b || list_any (λ range. not (range.1 == width)) (slot_ranges width xs)) (equal_self width) ∙ slots_equal width xs

pub same_equal : (width : ℕ) (ranges : List (ℕ × ℕ)) (xs : List Import) → SameRanges ranges (slot_ranges width xs) → list_any (λ range. not (range.1 == width)) ranges ≡ false
same_equal width ranges xs same = same (λ range. not (range.1 == width)) ∙ slots_equal width xs
