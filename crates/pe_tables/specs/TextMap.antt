-- Strings in the order of their bytes, each with a value. No contract of a public function cites it.
use Rattle.std.specs.Prelude.{◌≡◌, ℕ, ◌<◌, true, List, length, slice_index_or, Option, None, Some, AllPairs}
use Rattle.std.specs.Borrow.{Bor}
use Rattle.std.specs.Ordering.{nat_cmp}
use Rattle.std.specs.declared.cmp.Ordering.TheVariants.{Less}
use Rattle.std.specs.Cmp.Lexicographic.{slice_cmp}
use Rattle.std.specs.Map.{lookup}
use Rattle.std.specs.Str.{bytes_eq}

-- a string comes before another in the order of their bytes
abbrev pub IsBefore : List ℕ → List ℕ → Type 0
IsBefore a b = slice_cmp nat_cmp a b ≡ Less

abbrev pub TextsAscend : {X : Type 0} → List (Bor (List ℕ) × X) → Type 0
TextsAscend entries = AllPairs (λ entry later. IsBefore entry.0.now later.0.now) entries

-- the value of the first entry with a string
abbrev pub found : {X : Type 0} → List ℕ → List (Bor (List ℕ) × X) → Option X
found text entries = lookup (λ key. bytes_eq text key.now) entries

-- where a string is among entries, if it is there
abbrev pub IsPlace : {X : Type 0} → List ℕ → List (Bor (List ℕ) × X) → Option ℕ → Type 0
IsPlace text entries None = found text entries ≡ None
IsPlace {X} text entries (Some k) = (k < length entries) × ((entry : Bor (List ℕ) × X) → bytes_eq text (slice_index_or entries k entry).0.now ≡ true)
