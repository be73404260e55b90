-- The names of one ordinal among names that are ordered by ordinal: those of the name pointer table, in its order.
use Rattle.std.proofs.Common.{◌≡◌, ◌∙◌, ◌⊎◌, inl, inr, ℕ, suc, ◌+◌, ◌<◌, ◌≤◌, ◌==◌, Bool, true, false, cond, List, [], ◌∷◌, length, get_or, refl, sym, ap, arith, nat_cmp, zero-add}
use Rattle.std.specs.Prelude.{filter, slice_index, ⊤}
use Rattle.std.specs.Ordering.{is_lt, ordering_then}
use Rattle.std.specs.List.{sum_by, AllByRecursion, AllPairs}
use Rattle.std.specs.List.Sorted.{IsSortedBy, IsPermutation}
use Rattle.std.proofs.lemmas.Bool.{cases_order, eqb-true, eq-eqb, ne_eqb}
use Rattle.std.proofs.lemmas.Cmp.{then_total, on_total, nat_cmp_total}
use Rattle.std.proofs.lemmas.List.Elements.{filter_passes}
use Rattle.std.proofs.lemmas.List.FromFn.{get_or-map-range_with_len, length-map-range_with_len}
use Rattle.std.proofs.lemmas.List.Kept.{AllPairs-filter}
use Rattle.std.proofs.lemmas.List.MinMax.{ranks_by}
use Rattle.std.proofs.lemmas.List.Sorted.{sorted_far, sum_by-IsPermutation}
use Rattle.std.proofs.lemmas.List.Sums.{sum_by-cons}
use Rattle.pe_tables.specs.ExportNames.{AreByOrdinal, indexed}
use Rattle.pe_tables.specs.Exports.{Exports}
use Rattle.pe_json.specs.ExportRows.{AreNamesOf, own_rows, ordinal_rows, export_rows}
use Rattle.std.specs.Prelude.{flat_map}

-- the order of names by ordinal, and of those of one by index
abbrev comes_before : ℕ × ℕ → ℕ × ℕ → Bool
comes_before name other = is_lt (ordering_then (nat_cmp name.0 other.0) (nat_cmp name.1 other.1))

-- each name's index is at most those of the names after it
Ascend : List (ℕ × ℕ) → Type 0
Ascend [] = ⊤
Ascend (name ∷ names) = AllByRecursion (λ other. name.1 ≤ other.1) names × Ascend names

-- how many names have an index
is_at : ℕ → ℕ × ℕ → ℕ
is_at index name = cond (name.1 == index) 1 0

Have : ℕ → List (ℕ × ℕ) → Type 0
Have ordinal names = AllByRecursion (λ name. name.0 ≡ ordinal) names

none_at : (index : ℕ) (names : List (ℕ × ℕ)) (least : ℕ) → index < least → AllByRecursion (λ other. least ≤ other.1) names → sum_by (is_at index) names ≡ 0
unfolding is_at
none_at index [] least below all = refl
none_at index (name ∷ names) least below all =
    let other : (name.1 == index) ≡ false = ne_eqb _ _ (λ e. absurd (omega (arith, e, all.0))) in
    let here : is_at index name ≡ 0 = ap (λ b. cond b 1 0) other in
    let first = sum_by-cons (is_at index) name names in
    let rest = none_at index names least below all.1 in
    omega (arith, here, first, rest)

one_at : (name : ℕ × ℕ) (names : List (ℕ × ℕ)) → sum_by (is_at name.1) (name ∷ names) ≡ 1 + sum_by (is_at name.1) names
unfolding is_at
one_at name names = sum_by-cons (is_at name.1) name names ∙ ap (λ b. cond b 1 0 + sum_by (is_at name.1) names) (eq-eqb name.1 name.1 refl)

none_before : (name other : ℕ × ℕ) (names others : List (ℕ × ℕ)) → Ascend (other ∷ others) → name.1 < other.1
    → sum_by (is_at name.1) (name ∷ names) ≡ sum_by (is_at name.1) (other ∷ others) → ⊥
unfolding Ascend
none_before name other names others up below same =
    let one = one_at name names in
    let none = none_at name.1 (other ∷ others) other.1 below (omega arith, up.0) in
    omega (arith, one, none, same)

pair_is : (name other : ℕ × ℕ) (ordinal : ℕ) → name.0 ≡ ordinal → other.0 ≡ ordinal → name.1 ≡ other.1 → name ≡ other
pair_is name other ordinal a b c = λ i. ((a ∙ sym b) i, c i)

rest_same : (name other : ℕ × ℕ) (names others : List (ℕ × ℕ)) (index : ℕ) → name.1 ≡ other.1
    → sum_by (is_at index) (name ∷ names) ≡ sum_by (is_at index) (other ∷ others) → sum_by (is_at index) names ≡ sum_by (is_at index) others
unfolding is_at
rest_same name other names others index e same =
    let a = sum_by-cons (is_at index) name names in
    let b = sum_by-cons (is_at index) other others in
    let c : is_at index name ≡ is_at index other = ap (λ n. cond (n == index) 1 0) e in
    omega (arith, a, b, c, same)

-- ascending lists with the same names are the same
same_names : (ordinal : ℕ) (names others : List (ℕ × ℕ)) → Ascend names → Ascend others → Have ordinal names → Have ordinal others
    → ((index : ℕ) → sum_by (is_at index) names ≡ sum_by (is_at index) others) → names ≡ others
unfolding Ascend Have
same_names ordinal [] [] up up2 own own2 same = refl
same_names ordinal [] (other ∷ others) up up2 own own2 same = absurd (omega (arith, one_at other others, same other.1))
same_names ordinal (name ∷ names) [] up up2 own own2 same = absurd (omega (arith, one_at name names, same name.1))
same_names ordinal (name ∷ names) (other ∷ others) up up2 own own2 same =
    by (cases_order name.1 other.1) (λ e. same_names ordinal names others up.1 up2.1 own.1 own2.1 (λ index. rest_same name other names others index e (same index)))
  where
    by : (name.1 ≡ other.1) ⊎ ((name.1 < other.1) ⊎ (other.1 < name.1)) → (name.1 ≡ other.1 → names ≡ others) → name ∷ names ≡ other ∷ others
    by (inl e) rest = λ i. pair_is name other ordinal own.0 own2.0 e i ∷ rest e i
    by (inr (inl below)) rest = absurd (none_before name other names others up2 below (same name.1))
    by (inr (inr above)) rest = absurd (none_before other name others names up above (sym (same other.1)))

-- ---- the names of an ordinal
module _ (ordinal : ℕ) where
  is_its : ℕ × ℕ → Bool
  is_its name = name.0 == ordinal

  -- those of names that are ordered
  not_after : (name other : ℕ × ℕ) → comes_before other name ≡ false → name.0 ≡ ordinal → other.0 ≡ ordinal → name.1 ≤ other.1
  not_after name other after a b = grind arith

  its_own : (names : List (ℕ × ℕ)) → Have ordinal (filter is_its names)
  unfolding is_its Have
  its_own [] = tt
  its_own (name ∷ names) = by (name.0 == ordinal) refl (its_own names)
    where
      by : (b : Bool) → (name.0 == ordinal) ≡ b → Have ordinal (filter is_its names) → Have ordinal (cond b (name ∷ filter is_its names) (filter is_its names))
      by true e rest = (eqb-true _ _ e, rest)
      by false e rest = rest

  its_count : (index : ℕ) (names : List (ℕ × ℕ)) → sum_by (is_at index) (filter is_its names) ≡ sum_by (λ name. cond (is_its name) (is_at index name) 0) names
  its_count index [] = refl
  its_count index (name ∷ names) = by (is_its name) refl (its_count index names)
    where
      by : (b : Bool) → is_its name ≡ b → sum_by (is_at index) (filter is_its names) ≡ sum_by (λ name. cond (is_its name) (is_at index name) 0) names
          → sum_by (is_at index) (cond b (name ∷ filter is_its names) (filter is_its names)) ≡ sum_by (λ name. cond (is_its name) (is_at index name) 0) (name ∷ names)
      by true e rest =
          let first = sum_by-cons (is_at index) name (filter is_its names) in
          let all = sum_by-cons (λ name. cond (is_its name) (is_at index name) 0) name names in
          let here : cond (is_its name) (is_at index name) 0 ≡ is_at index name = ap (λ b. cond b (is_at index name) 0) e in
          omega (arith, first, all, here, rest)
      by false e rest =
          let all = sum_by-cons (λ name. cond (is_its name) (is_at index name) 0) name names in
          let here : cond (is_its name) (is_at index name) 0 ≡ 0 = ap (λ b. cond b (is_at index name) 0) e in
          omega (arith, all, here, rest)

by_recursion : (P : ℕ × ℕ → Type 0) (names : List (ℕ × ℕ)) → ((k : ℕ) (d : ℕ × ℕ) → k < length names → P (get_or names k d)) → AllByRecursion P names
by_recursion P [] all = tt
by_recursion P (name ∷ names) all = (all 0 name (omega arith), by_recursion P names (λ k d below. all (suc k) d (omega arith)))

ascend : (names : List (ℕ × ℕ)) → AllPairs (λ name other. name.1 ≤ other.1) names → Ascend names
unfolding Ascend
ascend [] pairs = tt
ascend (name ∷ names) pairs =
    (by_recursion (λ other. name.1 ≤ other.1) names (λ k d below. pairs 0 (suc k) d (omega arith) (omega arith)), ascend names (λ i j d before below. pairs (suc i) (suc j) d (omega arith) (omega arith)))

its_ordinal : (ordinal : ℕ) (name : ℕ × ℕ) → is_its ordinal name ≡ true → name.0 ≡ ordinal
unfolding is_its
its_ordinal ordinal name e = eqb-true _ _ e

-- names ordered by ordinal and index
ordered_pairs : (ordinal : ℕ) (names : List (ℕ × ℕ)) → IsSortedBy comes_before names → AllPairs (λ name other. name.1 ≤ other.1) (filter (is_its ordinal) names)
ordered_pairs ordinal names ordered i j d before below =
    let far : AllPairs (λ name other. comes_before other name ≡ false) names =
    λ a b e lt inside. sorted_far comes_before (ranks_by (then_total (on_total (λ (name : ℕ × ℕ). name.0) nat_cmp_total) (on_total (λ (name : ℕ × ℕ). name.1) nat_cmp_total)) (λ name. name)) names ordered a b e (omega arith) inside in
    let its = filter_passes (is_its ordinal) names in
    not_after ordinal _ _ (AllPairs-filter (λ name other. comes_before other name ≡ false) (is_its ordinal) names far i j d before below)
    (its_ordinal ordinal _ (its i d (omega arith))) (its_ordinal ordinal _ (its j d below))

indexed_pairs : (ordinal : ℕ) (numbers : List ℕ) → AllPairs (λ name other. name.1 ≤ other.1) (filter (is_its ordinal) (indexed numbers))
indexed_pairs ordinal numbers = AllPairs-filter (λ name other. name.1 ≤ other.1) (is_its ordinal) (indexed numbers) (λ i j d before below.
    let name : ℕ → ℕ × ℕ = λ index. (slice_index numbers index, index) in
    let size = length-map-range_with_len name 0 (length numbers) in
    let inside : j < length numbers = omega (arith, below, size) in
    let first = get_or-map-range_with_len name 0 (length numbers) i i d (omega arith) (zero-add i) in
    let second = get_or-map-range_with_len name 0 (length numbers) j j d inside (zero-add j) in
    rw (first, second) (omega arith))

-- in names that are ordered by ordinal, those of one are in the order of the table
pub its_names : (ordinal : ℕ) (numbers : List ℕ) (names : List (ℕ × ℕ)) → AreByOrdinal names → IsPermutation (indexed numbers) names
    → filter (λ name. name.0 == ordinal) names ≡ filter (λ name. name.0 == ordinal) (indexed numbers)
unfolding is_its
its_names ordinal numbers names ordered all =
    same_names ordinal (filter (is_its ordinal) names) (filter (is_its ordinal) (indexed numbers))
    (ascend _ (ordered_pairs ordinal names ordered)) (ascend _ (indexed_pairs ordinal numbers)) (its_own ordinal names) (its_own ordinal (indexed numbers))
    (λ index. its_count ordinal index names ∙ sum_by-IsPermutation (λ name. cond (is_its ordinal name) (is_at index name) 0) (indexed numbers) names all ∙ sym (its_count ordinal index (indexed numbers)))

-- so the rows of exports are those by such names
pub rows_by_names : (exports : Exports) (names : List (ℕ × ℕ)) → AreByOrdinal names → AreNamesOf exports names
    → flat_map (ordinal_rows exports.names names) exports.ordinals ≡ export_rows exports
rows_by_names exports names ordered all = λ i. flat_map (λ pair. own_rows exports.names pair.0 pair.1 (its_names pair.0 exports.name_ordinals names ordered all i)) exports.ordinals
