-- The symbols that an iterator over an image has yet to return, each with the index of its record.
use Rattle.std.specs.Prelude.{ℕ, ◌-◌, List, option_map}
use Rattle.pe_view.specs.View.{bytes_of}
use Rattle.coff_read.specs.ImageNames.{table_of}
use Rattle.coff_read.specs.ImageSymbols.{image_symbols_from}
use Rattle.coff_read.specs.Records.{Symbol}
use Rattle.coff_read.specs.declared.image_symbols.ImageSymbols.{ImageSymbols}

abbrev pub image_symbols_left : {A : Type 0} → ImageSymbols A → List (ℕ × Symbol)
image_symbols_left s = image_symbols_from (bytes_of s.view) (option_map table_of s.strings) s.start s.next (s.records - s.next) 0
