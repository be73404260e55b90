-- The indexes of the symbols of an object ascend.
use Rattle.std.proofs.Common.{◌≡◌, ℕ, zero, suc, ◌+◌, ◌<◌, List, [], ◌∷◌, map, refl, ap, arith}
use Rattle.std.specs.Prelude.{AllPairs}
use Rattle.std.specs.List.{All}
use Rattle.std.proofs.lemmas.List.{get_or-map, length-map}
use Rattle.std.proofs.lemmas.List.Elements.{All-cons}
use Rattle.std.proofs.lemmas.List.Kept.{AllPairs-cons}
use Rattle.coff_read.specs.BigLeft.{indexed}
use Rattle.coff_read.specs.FormReading.{aux_count, record_start, symbol_at, symbols_from}
use Rattle.coff_read.specs.Forms.{Form}
use Rattle.coff_read.specs.Records.{Symbol}

-- the first of each pair
abbrev pub indexes : {X : Type 0} → List (ℕ × X) → List ℕ
indexes {X} items = map (λ (item : ℕ × X). item.0) items

-- the name of a symbol with the index of its record
abbrev pub symbol_name : ℕ × Symbol → ℕ × List ℕ
symbol_name item = (item.0, item.1.name)

module _ (big : Form) (file : List ℕ) where
  above : (low k left skip : ℕ) → low < k → All (λ r. low < r) (symbols_from big file k left skip)
  above low k zero skip less = λ j d lt. absurd (omega arith)
  above low k (suc left) zero less = All-cons (λ r. low < r) k (symbols_from big file (k + 1) left (aux_count big file k)) less (above low (k + 1) left (aux_count big file k) (omega arith))
  above low k (suc left) (suc skip) less = above low (k + 1) left skip (omega arith)

  pub symbols_ascend : (k left skip : ℕ) → AllPairs (λ r later. r < later) (symbols_from big file k left skip)
  symbols_ascend k zero skip = λ i j d less lt. absurd (omega arith)
  symbols_ascend k (suc left) zero =
      AllPairs-cons (λ r later. r < later) k (symbols_from big file (k + 1) left (aux_count big file k)) (above k (k + 1) left (aux_count big file k) (omega arith)) (symbols_ascend (k + 1) left (aux_count big file k))
  symbols_ascend k (suc left) (suc skip) = symbols_ascend (k + 1) left skip

  -- the names of symbols with the indexes of their records
  pub names-indexed : (records : List ℕ) → map symbol_name (indexed big file records) ≡ map (λ k. (k, (symbol_at big file (record_start big file k)).name)) records
  names-indexed [] = refl
  names-indexed (k ∷ records) = ap (λ (l : List (ℕ × List ℕ)). (k, (symbol_at big file (record_start big file k)).name) ∷ l) (names-indexed records)

  pub indexes-indexed : (records : List ℕ) → indexes (indexed big file records) ≡ records
  indexes-indexed [] = refl
  indexes-indexed (k ∷ records) = ap (λ (l : List ℕ). k ∷ l) (indexes-indexed records)

pub ascend_by_index : {X : Type 0} (names : List (ℕ × X)) → AllPairs (λ n later. n < later) (indexes names) → AllPairs (λ name later. name.0 < later.0) names
ascend_by_index {X} names up = λ i j d less lt.
    let first = λ (x : ℕ × X). x.0 in
    let at : (map first names) ≡ indexes names = refl in
    let below = up i j d.0 less (omega (arith, lt, length-map names first)) in
    let here = get_or-map first names i d d.0 (omega arith) in
    let there = get_or-map first names j d d.0 lt in
    omega (arith, below, here, there)
