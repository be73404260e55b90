-- A symbol of the code, with its name as a list. No contract of a public function cites it.
use Rattle.coff_library.specs.Symbols as library
use Rattle.coff_library.specs.declared.library_symbol.LibrarySymbol as code

abbrev pub symbol_view : code.LibrarySymbol → library.Symbol
symbol_view s = record { name = s.name.now; member = s.member }
