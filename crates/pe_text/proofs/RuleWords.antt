-- The words of a number in the table of faults, row by row.
use Rattle.std.proofs.Common.{◌≡◌, ◌∙◌, ℕ, zero, suc, ◌+◌, ◌<◌, ◌≤◌, Bool, true, false, cond, List, [], ◌∷◌, ◌++◌, map, drop, length, get_or, Some, None, refl, sym, ap, arith}
use Rattle.std.proofs.lemmas.Bool.{eq-eqb, ne_eqb}
use Rattle.std.proofs.lemmas.List.{at_drop_more, drop_all, length-map}
use Rattle.std.specs.Prelude.{Option}
use Rattle.std.specs.Option.{option_or}
use denote.Bor.{Bor}
use Rattle.pe_text.specs.FaultWords.{Words, rule_view, words_in}

or_row : (b : Bool) (row : Words) (first second both : Option Words) → both ≡ option_or first second → cond b (Some row) both ≡ option_or (cond b (Some row) first) second
or_row true row first second both e = refl
or_row false row first second both e = e

-- the words of a number in two tables
pub words-append : (first second : List (ℕ × Words)) (number : ℕ) → words_in (first ++ second) number ≡ option_or (words_in first number) (words_in second number)
words-append [] second number = refl
words-append (row ∷ first) second number = or_row _ row.1 _ _ _ (words-append first second number)

-- a row of a table as the code has it
abbrev Row : Type 0
Row = ℕ × Bor (List ℕ) × Bor (List ℕ)

get_or-map : (rows : List Row) (i : ℕ) (d : Row) → get_or (map rule_view rows) i (rule_view d) ≡ rule_view (get_or rows i d)
get_or-map [] i d = refl
get_or-map (row ∷ rows) zero d = refl
get_or-map (row ∷ rows) (suc i) d = get_or-map rows i d

-- the rows from i on are row i and those after it
row_here : (rows : List Row) (i : ℕ) (d : Row) → i < length rows → drop i (map rule_view rows) ≡ rule_view (get_or rows i d) ∷ drop (i + 1) (map rule_view rows)
row_here rows i d below =
    let count = length-map rows rule_view in
    at_drop_more (λ ys. ys) (map rule_view rows) i (rule_view d) (omega (arith, below, count))
    ∙ ap (λ (row : ℕ × Words). row ∷ drop (i + 1) (map rule_view rows)) (get_or-map rows i d)

module _ (rows : List Row) (i number : ℕ) (d : Row) (all : Option Words) (below : i < length rows) (left : words_in (drop i (map rule_view rows)) number ≡ all) where
  here : words_in (rule_view (get_or rows i d) ∷ drop (i + 1) (map rule_view rows)) number ≡ all
  here = rw (row_here rows i d below) at left

  -- the number is that of row i
  pub row_found : (get_or rows i d).0 ≡ number → Some (rule_view (get_or rows i d)).1 ≡ all
  row_found is = rw (eq-eqb number (get_or rows i d).0 (sym is)) at here

  -- it is not
  pub row_passed : ((get_or rows i d).0 ≡ number → ⊥) → words_in (drop (i + 1) (map rule_view rows)) number ≡ all
  row_passed not = rw (ne_eqb number (get_or rows i d).0 (λ e. not (sym e))) at here

-- all rows were passed
pub none_found : (rows : List Row) (i number : ℕ) (all : Option Words) → length rows ≤ i → words_in (drop i (map rule_view rows)) number ≡ all → None ≡ all
none_found rows i number all past left =
    let count = length-map rows rule_view in
    rw (drop_all i (map rule_view rows) (omega (arith, past, count))) at left
