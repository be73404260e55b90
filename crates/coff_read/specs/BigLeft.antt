-- The sections and symbols that an iterator over a big object's file has yet to return, each symbol with the index of its record.
use Rattle.std.specs.Prelude.{ℕ, ◌-◌, List, map}
use Rattle.std.specs.List.{range_with_len}
use Rattle.pe_view.specs.View.{bytes_of}
use Rattle.coff_read.specs.BigView.{big_symbol_view}
use Rattle.coff_read.specs.FormReading.{section_in, section_start, record_start, symbol_at, symbols_from}
use Rattle.coff_read.specs.Forms.{Form, Big}
use Rattle.coff_read.specs.Records as format
use Rattle.coff_read.specs.declared.big_sections.EachBigSection.{EachBigSection}
use Rattle.coff_read.specs.declared.big_symbol.BigSymbol.{BigSymbol}
use Rattle.coff_read.specs.declared.big_symbols.BigSymbols.{BigSymbols}
use Rattle.coff_read.specs.declared.big_symbols.EachBigSymbol.{EachBigSymbol}

abbrev pub each_big_section_left : {A : Type 0} → EachBigSection A → List format.Section
each_big_section_left s = map (section_in Big (bytes_of s.view)) (map (section_start Big (bytes_of s.view)) (range_with_len s.next (s.tables.sections - s.next)))

abbrev pub big_item_view : ℕ × BigSymbol → ℕ × format.Symbol
big_item_view item = (item.0, big_symbol_view item.1)

-- the symbols of records, each with the record's index
abbrev pub indexed : Form → List ℕ → List ℕ → List (ℕ × format.Symbol)
indexed big file records = map (λ k. (k, symbol_at big file (record_start big file k))) records

abbrev pub big_symbols_left : BigSymbols → List (ℕ × format.Symbol)
big_symbols_left s = indexed Big (bytes_of s.view) (symbols_from Big (bytes_of s.view) s.next (s.tables.records - s.next) 0)

abbrev pub each_big_symbol_left : {A : Type 0} → EachBigSymbol A → List (ℕ × format.Symbol)
each_big_symbol_left s = indexed Big (bytes_of s.view) (symbols_from Big (bytes_of s.view) s.next (s.tables.records - s.next) 0)
