-- The pairs of a Rich header, as the code has them.
use Rattle.std.proofs.Common.{◌≡◌, ◌∙◌, ℕ, ◌<◌, ◌≤◌, cond, List, [], ◌∷◌, length, map, Option, Some, None, refl, sym, ap, inl, inr, zero-add}
use Rattle.std.proofs.lemmas.Bool.{cases_Bool, ltb-true, ltb-false}
use Rattle.std.proofs.lemmas.List.{length-map}
use Rattle.std.proofs.lemmas.List.FromFn.{get_or-map-range_with_len, length-map-range_with_len}
use Rattle.std.proofs.lemmas.Option.{slice_get-get_or, slice_get-map, slice_get_past}
use Rattle.std.specs.List.{range_with_len}
use Rattle.std.specs.Prelude.{nat_lt, slice_get, option_map}
use Rattle.pe_trust.specs.Rich.{Pair, Rich, pair_at, pair_count}
use Rattle.pe_trust.specs.RichView.{pair_view}
use Rattle.pe_trust.specs.declared.rich_words.RichPair.{RichPair}
use Rattle.c_tables.specs.RichRows.{pair_item, pairs_by}

pub pairs_counted : (file : List ℕ) (r : Rich) → length (map pair_item (pairs_by file r)) ≡ pair_count r
pairs_counted file r = length-map (pairs_by file r) pair_item ∙ length-map-range_with_len (pair_at file r) 0 (pair_count r)

-- the item at an index of a list made by index
made : {X : Type 0} (f : ℕ → X) (n k : ℕ) → slice_get (map f (range_with_len 0 n)) k ≡ cond (nat_lt k n) (Some (f k)) None
made f n k = elim (cases_Bool (nat_lt k n)) [
  | inl under ↦
      let lt : k < n = ltb-true k n under in
      slice_get-get_or (map f (range_with_len 0 n)) k (f k) (rw (length-map-range_with_len f 0 n) lt)
      ∙ ap Some (get_or-map-range_with_len f 0 n k k (f k) lt (zero-add k))
      ∙ rw under refl
  | inr over ↦
      let le : n ≤ k = ltb-false k n over in
      slice_get_past (map f (range_with_len 0 n)) k (rw (length-map-range_with_len f 0 n) le) ∙ rw over refl
]

shown : (found : Option RichPair) → found ≡ option_map pair_item (option_map pair_view found)
shown None = refl
shown (Some p) = refl

pub pair_got : (file : List ℕ) (r : Rich) (i : ℕ) (found : Option RichPair) → option_map pair_view found ≡ cond (nat_lt i (pair_count r)) (Some (pair_at file r i)) None
    → found ≡ slice_get (map pair_item (pairs_by file r)) i
pair_got file r i found is =
    shown found ∙ ap (option_map pair_item) (is ∙ sym (made (pair_at file r) (pair_count r) i)) ∙ sym (slice_get-map pair_item (pairs_by file r) i)

pub pairs_shown : (pairs : List Pair) → map pair_view (map pair_item pairs) ≡ pairs
pairs_shown [] = refl
pairs_shown (p ∷ pairs) = ap (λ (rest : List Pair). p ∷ rest) (pairs_shown pairs)
