-- The symbols that an iterator over an object file has yet to return, each with the index of its record.
use Rattle.std.specs.Prelude.{ℕ, ◌-◌, List, map}
use Rattle.pe_view.specs.View.{bytes_of}
use Rattle.coff_read.specs.ObjectView.{symbol_view}
use Rattle.coff_read.specs.Reading.{record_start, symbol_at, symbols_from}
use Rattle.coff_read.specs.Records as format
use Rattle.coff_read.specs.declared.symbol.Symbol.{Symbol}
use Rattle.coff_read.specs.declared.symbols.EachSymbol.{EachSymbol}
use Rattle.coff_read.specs.declared.symbols.Symbols.{Symbols}

abbrev pub item_view : ℕ × Symbol → ℕ × format.Symbol
item_view item = (item.0, symbol_view item.1)

-- the symbols of records, each with the record's index
abbrev pub indexed : List ℕ → List ℕ → List (ℕ × format.Symbol)
indexed file records = map (λ k. (k, symbol_at file (record_start file k))) records

abbrev pub symbols_left : Symbols → List (ℕ × format.Symbol)
symbols_left s = indexed (bytes_of s.view) (symbols_from (bytes_of s.view) s.next (s.tables.records - s.next) 0)

abbrev pub each_symbol_left : {A : Type 0} → EachSymbol A → List (ℕ × format.Symbol)
each_symbol_left s = indexed (bytes_of s.view) (symbols_from (bytes_of s.view) s.next (s.tables.records - s.next) 0)
