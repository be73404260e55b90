use Rattle.std.proofs.Common.{◌≡◌, ◌++◌}
use Rattle.std.specs.Prelude.{map}
use Rattle.coff_read.specs.EitherLeft.{each_either_symbol_left}
use Rattle.coff_read.specs.EitherObject.{form_of, file_of}
use Rattle.coff_read.specs.FormReading.{symbol_indexes}
use Rattle.pe_page.specs.Objects.{named, symbol_names}
use Rattle.pe_page.proofs.SymbolIndexes.{indexes, symbol_name}
use Rattle.pe_page.proofs.symbol_names.SymbolNames.new.Given as goal

-- those that were pushed and those that are left are the symbols of the object
abbrev pub invariant-loop-index : goal.invariant-loop-index
invariant-loop-index g l = record {
  indexes : indexes l.names.items ++ indexes (each_either_symbol_left l.index-iterator) ≡ symbol_indexes (form_of l.object) (file_of l.object);
  names : named l.names.items ++ map symbol_name (each_either_symbol_left l.index-iterator) ≡ symbol_names (form_of l.object) (file_of l.object);
}
