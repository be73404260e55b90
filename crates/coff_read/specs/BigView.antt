-- A big object of the code, with strings and bytes as lists.
use Rattle.std.specs.Prelude.{map}
use Rattle.coff_read.specs.ObjectView.{section_view}
use Rattle.coff_read.specs.Records as format
use Rattle.coff_read.specs.declared.big_object.BigObject.{BigObject}
use Rattle.coff_read.specs.declared.big_symbol.BigSection.{BigSection}
use Rattle.coff_read.specs.declared.big_symbol.BigSection.TheVariants as code
use Rattle.coff_read.specs.declared.big_symbol.BigSymbol.{BigSymbol}
use Rattle.coff_read.specs.declared.symbol.SymbolSection.{SymbolSection}
use Rattle.coff_read.specs.declared.symbol.SymbolSection.TheVariants as belongs

abbrev pub belongs_view : BigSection → SymbolSection
belongs_view code.Undefined = belongs.Undefined
belongs_view code.Absolute = belongs.Absolute
belongs_view code.Debug = belongs.Debug
belongs_view (code.Section number) = belongs.Section number

abbrev pub big_symbol_view : BigSymbol → format.Symbol
big_symbol_view s = record { name = s.name.now; value = s.value; section = belongs_view s.section; kind = s.kind; class = s.class; aux = s.aux.now }

abbrev pub big_object_view : {A : Type 0} → BigObject A → format.Object
big_object_view o = record {
  machine = o.machine;
  time_stamp = o.time_stamp;
  characteristics = o.characteristics;
  optional = o.optional.now;
  sections = map section_view o.sections.items;
  symbols = map big_symbol_view o.symbols.items;
}
