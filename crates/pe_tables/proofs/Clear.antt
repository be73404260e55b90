-- What shares no byte with a page and 8 bytes more shares none with a field that begins in the page.
use Rattle.std.proofs.Common.{◌≡◌, ℕ, ◌+◌, ◌≤◌, false, List, get_or, refl, arith, inl, inr}
use Rattle.std.specs.Prelude.{nat_lt}
use Rattle.std.proofs.lemmas.Bool.{le-ltb, and_right}
use Rattle.std.proofs.lemmas.List.Folds.{list_any_none}
use Rattle.pe_ranges.specs.Ranges.{meets, meets_any}
use Rattle.pe_tables.specs.FixupReading.{IsClear}
use Rattle.pe_tables.proofs.Beside.{apart_range, none_at}

off : (page start width : ℕ) (range : ℕ × ℕ) → page ≤ start → start + width ≤ page + 4104 → meets page 4104 range.0 range.1 ≡ false → meets start width range.0 range.1 ≡ false
off page start width range low high apart = elim (apart_range page 4104 range.0 range.1 apart) [
  | inl before ↦ rw (le-ltb start (range.0 + range.1) (omega arith)) refl
  | inr behind ↦ rw (le-ltb range.0 (start + width) (omega arith)) (and_right (nat_lt start (range.0 + range.1)) false refl)
]

pub clear : (page : ℕ) (ranges : List (ℕ × ℕ)) → meets_any page 4104 ranges ≡ false → IsClear page ranges
clear page ranges apart = λ start width low high few.
    list_any_none (λ (range : ℕ × ℕ). meets start width range.0 range.1) ranges
    (λ k d lt. off page start width (get_or ranges k d) low (omega arith) (none_at (λ (range : ℕ × ℕ). meets page 4104 range.0 range.1) ranges k d apart lt))
