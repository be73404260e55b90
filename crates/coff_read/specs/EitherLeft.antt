-- The sections and symbols that an iterator over an object's file of either form has yet to return, each symbol with the index of its
-- record.
use Rattle.std.specs.Prelude.{ℕ, List}
use Rattle.coff_read.specs.BigLeft.{each_big_section_left, big_symbols_left, each_big_symbol_left}
use Rattle.coff_read.specs.Records as format
use Rattle.coff_read.specs.SectionsLeft.{each_section_left}
use Rattle.coff_read.specs.SymbolsLeft.{symbols_left, each_symbol_left}
use Rattle.coff_read.specs.declared.either_sections.EachEitherSection.{EachEitherSection}
use Rattle.coff_read.specs.declared.either_sections.EachEitherSection.TheVariants as sections
use Rattle.coff_read.specs.declared.either_symbols.EitherSymbols.{EitherSymbols}
use Rattle.coff_read.specs.declared.either_symbols.EitherSymbols.TheVariants as symbols
use Rattle.coff_read.specs.declared.either_symbols.EachEitherSymbol.{EachEitherSymbol}
use Rattle.coff_read.specs.declared.either_symbols.EachEitherSymbol.TheVariants as each

abbrev pub each_either_section_left : {A : Type 0} → EachEitherSection A → List format.Section
each_either_section_left (sections.Plain left) = each_section_left left
each_either_section_left (sections.Big left) = each_big_section_left left

abbrev pub either_symbols_left : EitherSymbols → List (ℕ × format.Symbol)
either_symbols_left (symbols.Plain left) = symbols_left left
either_symbols_left (symbols.Big left) = big_symbols_left left

abbrev pub each_either_symbol_left : {A : Type 0} → EachEitherSymbol A → List (ℕ × format.Symbol)
each_either_symbol_left (each.Plain left) = each_symbol_left left
each_either_symbol_left (each.Big left) = each_big_symbol_left left
