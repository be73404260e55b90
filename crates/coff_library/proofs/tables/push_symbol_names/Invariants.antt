use Rattle.std.proofs.Common.{◌≡◌, ◌++◌, drop}
use Rattle.std.specs.Prelude.{map}
use Rattle.coff_library.specs.SymbolView.{symbol_view}
use Rattle.coff_library.specs.Written.{symbol_names}
use Rattle.coff_library.proofs.tables.push_symbol_names.Given as goal

abbrev pub invariant-loop-symbol : goal.invariant-loop-symbol
invariant-loop-symbol g l =
    l.bytes.items ++ symbol_names (map symbol_view (drop l.symbol-index l.symbols)) ≡ l.initial.bytes.items ++ symbol_names (map symbol_view l.symbols)
