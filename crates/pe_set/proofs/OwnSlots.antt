-- Delay-loaded imports with slots of their own: their slots share no byte with one another, nor with those of imports.
use Rattle.std.proofs.Common.{◌≡◌, ◌∙◌, ◌+◌, ◌<◌, ◌≤◌, ℕ, zero, suc, List, [], ◌∷◌, ◌++◌, take, Bool, true, false, cond, length, Some, refl, sym, ap, arith}
use Rattle.std.specs.Prelude.{slice_get, filter, All, AllPairs}
use Rattle.std.proofs.lemmas.Bool.{or_parts, or_from}
use Rattle.std.proofs.lemmas.List.Elements.{All-nil, All-cons, All-filter, All-weaker}
use Rattle.std.proofs.lemmas.List.Kept.{AllPairs-cons, AllPairs-filter}
use Rattle.std.proofs.lemmas.Option.{same_Some}
use Rattle.pe_layout.specs.Image.{LaidOut}
use Rattle.pe_ranges.specs.Ranges.{meets, meets_any}
use Rattle.pe_tables.specs.ImportPlaces.{IsApart}
use Rattle.pe_tables.specs.Imports.{Import}
use Rattle.pe_delay.specs.Imports.{delay_imports_of}
use Rattle.pe_set.specs.DelayedImports.{slot_ranges, own_slot_at, with_own_slots}
use Rattle.pe_set.proofs.Gathered.{all_got, got_all, all_numbered, few_numbered, AllPairs-nil, AllPairs-append}
use Rattle.pe_set.proofs.NumberedLists.{pairs_numbered}
use Rattle.pe_set.proofs.Places.{apart_unless}

-- ---- slots that meet none of others
module _ (start len w : ℕ) where
  pub meets_parts : (xs ys : List Import) → meets_any start len (slot_ranges w (xs ++ ys)) ≡ false
      → (meets_any start len (slot_ranges w xs) ≡ false) × (meets_any start len (slot_ranges w ys) ≡ false)
  meets_parts [] ys none = (refl, none)
  meets_parts (x ∷ xs) ys none =
      let here = or_parts (meets start len x.slot w) (meets_any start len (slot_ranges w (xs ++ ys))) none in
      let later = meets_parts xs ys here.1 in
      (or_from (meets start len x.slot w) (meets_any start len (slot_ranges w xs)) here.0 later.0, later.1)

  pub meets_none : (xs : List Import) (k : ℕ) (x : Import) → meets_any start len (slot_ranges w xs) ≡ false → slice_get xs k ≡ Some x → meets start len x.slot w ≡ false
  meets_none [] k x none at = absurd cc
  meets_none (y ∷ xs) zero x none at =
      ap (λ (z : Import). meets start len z.slot w) (sym (same_Some y x at)) ∙ (or_parts (meets start len y.slot w) (meets_any start len (slot_ranges w xs)) none).0
  meets_none (y ∷ xs) (suc k) x none at = meets_none xs k x (or_parts (meets start len y.slot w) (meets_any start len (slot_ranges w xs)) none).1 at

  pub meets_none_before : (k j : ℕ) (xs : List Import) (x : Import) → meets_any start len (slot_ranges w (take k xs)) ≡ false → j < k → slice_get xs j ≡ Some x → meets start len x.slot w ≡ false
  meets_none_before zero j xs x none lt at = absurd (omega (arith, lt))
  meets_none_before (suc k) j [] x none lt at = absurd cc
  meets_none_before (suc k) zero (y ∷ xs) x none lt at =
      ap (λ (z : Import). meets start len z.slot w) (sym (same_Some y x at)) ∙ (or_parts (meets start len y.slot w) (meets_any start len (slot_ranges w (take k xs))) none).0
  meets_none_before (suc k) (suc j) (y ∷ xs) x none lt at =
      meets_none_before k j xs x (or_parts (meets start len y.slot w) (meets_any start len (slot_ranges w (take k xs))) none).1 (omega (arith, lt)) at

slots_apart : (w : ℕ) (x y : Import) → meets y.slot w x.slot w ≡ false → IsApart w x y
slots_apart w x y none = apart_unless y.slot w x.slot w none

-- ---- one item or none
all_if : (P : Import → Type 0) (b : Bool) (x : Import) → (b ≡ false → P x) → All P (cond b [] (x ∷ []))
all_if P true x own = All-nil P
all_if P false x own = All-cons P x [] (own refl) (All-nil P)

pairs_if : (R : Import → Import → Type 0) (b : Bool) (x : Import) → AllPairs R (cond b [] (x ∷ []))
pairs_if R true x = AllPairs-nil R
pairs_if R false x = AllPairs-cons R x [] (All-nil (R x)) (AllPairs-nil R)

few_if : (b : Bool) (x : Import) → length (cond b [] (x ∷ [])) ≤ 1
few_if true x = omega arith
few_if false x = omega arith

-- ---- those of an image with these imports
module _ (i : LaidOut) (imports : List Import) where
  -- whether the slot of delay-loaded import k shares a byte with one of those
  abbrev shares : ℕ → Import → Bool
  shares k x = meets_any x.slot i.slot_width (slot_ranges i.slot_width (imports ++ take k (delay_imports_of i)))

  -- what holds for each delay-loaded import
  pub all_own : (P : Import → Type 0) → All P (delay_imports_of i) → All P (with_own_slots i imports)
  all_own P all = all_numbered P (own_slot_at i imports) 0 (delay_imports_of i)
      (λ k x at. all_if P (shares (0 + k) x) x (λ _. got_all P (delay_imports_of i) k x all at))

  pub few_own : length (delay_imports_of i) ≤ 1048576 → length (with_own_slots i imports) ≤ 1048576
  few_own few =
      let most = few_numbered (own_slot_at i imports) 1 0 (delay_imports_of i) (λ k x at. few_if (shares (0 + k) x) x) in
      omega (arith, most, few)

  own_pairs : AllPairs (IsApart i.slot_width) (with_own_slots i imports)
  own_pairs = pairs_numbered (IsApart i.slot_width) (own_slot_at i imports) 0 (delay_imports_of i)
      (λ k x at. pairs_if (IsApart i.slot_width) (shares (0 + k) x) x)
      (λ j k x y lt at_j at_k.
      all_if (λ a. All (IsApart i.slot_width a) (own_slot_at i imports (0 + k) y)) (shares (0 + j) x) x (λ _.
      all_if (IsApart i.slot_width x) (shares (0 + k) y) y (λ none.
      let parts = meets_parts y.slot i.slot_width i.slot_width imports (take (0 + k) (delay_imports_of i)) none in
      slots_apart i.slot_width x y (meets_none_before y.slot i.slot_width i.slot_width (0 + k) j (delay_imports_of i) x parts.1 (omega (arith, lt)) at_j))))

  off_imports : All (λ x. All (IsApart i.slot_width x) (with_own_slots i imports)) imports
  off_imports = all_got (λ x. All (IsApart i.slot_width x) (with_own_slots i imports)) imports (λ j x at_j.
      all_numbered (IsApart i.slot_width x) (own_slot_at i imports) 0 (delay_imports_of i) (λ k y at_k.
      all_if (IsApart i.slot_width x) (shares (0 + k) y) y (λ none.
      slots_apart i.slot_width x y (meets_none y.slot i.slot_width i.slot_width imports j x (meets_parts y.slot i.slot_width i.slot_width imports (take (0 + k) (delay_imports_of i)) none).0 at_j))))

  -- the slots of imports and of some of these share no byte
  pub all_apart : (p : Import → Bool) → AllPairs (IsApart i.slot_width) imports → AllPairs (IsApart i.slot_width) (imports ++ filter p (with_own_slots i imports))
  all_apart p apart =
      AllPairs-append (IsApart i.slot_width) imports (filter p (with_own_slots i imports)) apart
      (AllPairs-filter (IsApart i.slot_width) p (with_own_slots i imports) own_pairs)
      (All-weaker (λ x. All (IsApart i.slot_width x) (with_own_slots i imports)) (λ x. All (IsApart i.slot_width x) (filter p (with_own_slots i imports)))
      (λ x all. All-filter p (IsApart i.slot_width x) (with_own_slots i imports) all) imports off_imports)
