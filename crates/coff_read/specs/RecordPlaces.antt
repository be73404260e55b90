-- Which records of a symbol table begin a symbol, by index.
use Rattle.std.specs.Prelude.{◌≡◌, ℕ, ◌+◌, ◌<◌, ◌≤◌, List, Some, None, slice_get}
use Rattle.coff_read.specs.Reading.{aux_count, symbol_indexes}
use Rattle.coff_read.specs.Strings.{record_count}

-- Record 0 begins a symbol. If record k begins one, the next begins after its auxiliary records, if there is a record.
pub record SymbolsBegin (file : List ℕ) : Type 0 where
  pub first : 0 < record_count file → slice_get (symbol_indexes file) 0 ≡ Some 0
  pub none : record_count file ≡ 0 → slice_get (symbol_indexes file) 0 ≡ None
  pub next : (i k : ℕ) → slice_get (symbol_indexes file) i ≡ Some k → k + 1 + aux_count file k < record_count file → slice_get (symbol_indexes file) (i + 1) ≡ Some (k + 1 + aux_count file k)
  pub last : (i k : ℕ) → slice_get (symbol_indexes file) i ≡ Some k → record_count file ≤ k + 1 + aux_count file k → slice_get (symbol_indexes file) (i + 1) ≡ None
