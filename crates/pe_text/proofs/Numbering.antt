-- The lines of a table's rows.
use Rattle.std.proofs.Common.{ℕ, ◌≡◌, ◌∙◌, ◌+◌, ◌<◌, ◌≤◌, List, [], ◌∷◌, ◌++◌, take, drop, length, get_or, add-one, append_assoc, append-nil, drop-cons, sym, ap, arith}
use Rattle.std.specs.Prelude.{flat_map}
use Rattle.std.specs.List.{range_with_len}
use Rattle.std.proofs.lemmas.Grind.{flat_map-append}
use Rattle.std.proofs.lemmas.List.{map-id, take-append-drop}
use Rattle.std.proofs.lemmas.List.FromFn.{map-range_with_len_more, take-map-range_with_len}
use Rattle.pe_text.specs.Text.{numbered}

-- one more row is written
pub numbered-next : {Row : Type 0} (line : ℕ → Row → List ℕ) (index : ℕ) (rows : List Row) (row : Row) (written all : List ℕ) → index < length rows
    → written ++ numbered line index (drop index rows) ≡ all
    → (written ++ line index (get_or rows index row)) ++ numbered line (index + 1) (drop (index + 1) rows) ≡ all
numbered-next line index rows row written all below e =
    let first : drop index rows ≡ get_or rows index row ∷ drop (index + 1) rows = rw add-one (drop-cons rows index row below) in
    rw append_assoc (rw first at e)

numbers_more : (n : ℕ) → range_with_len 0 (n + 1) ≡ range_with_len 0 n ++ n ∷ []
numbers_more n = sym (map-id (range_with_len 0 (n + 1))) ∙ map-range_with_len_more (λ j. j) 0 n n (omega arith) ∙ ap (λ (xs : List ℕ). xs ++ n ∷ []) (map-id (range_with_len 0 n))

-- one more line, of lines by their numbers
pub line_more : (line : ℕ → List ℕ) (k : ℕ) → flat_map line (range_with_len 0 (k + 1)) ≡ flat_map line (range_with_len 0 k) ++ line k
line_more line k = ap (flat_map line) (numbers_more k) ∙ flat_map-append line (range_with_len 0 k) (k ∷ []) ∙ ap (λ (xs : List ℕ). flat_map line (range_with_len 0 k) ++ xs) (append-nil (line k))

-- the lines up to a number are the first of all
pub lines_left : (line : ℕ → List ℕ) (k n : ℕ) → k ≤ n
    → flat_map line (range_with_len 0 n) ≡ flat_map line (range_with_len 0 k) ++ flat_map line (drop k (range_with_len 0 n))
lines_left line k n within =
    let first : take k (range_with_len 0 n) ≡ range_with_len 0 k =
    sym (ap (take k) (map-id (range_with_len 0 n))) ∙ take-map-range_with_len (λ j. j) 0 n k within ∙ map-id (range_with_len 0 k) in
    ap (flat_map line) (sym (take-append-drop k (range_with_len 0 n)) ∙ ap (λ (xs : List ℕ). xs ++ drop k (range_with_len 0 n)) first)
    ∙ flat_map-append line (range_with_len 0 k) (drop k (range_with_len 0 n))
