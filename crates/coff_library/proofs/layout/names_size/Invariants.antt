use Rattle.std.proofs.Common.{◌≡◌, ◌+◌, ◌<◌, ◌^◌, drop}
use Rattle.std.specs.Prelude.{map}
use Rattle.coff_library.specs.SymbolView.{symbol_view}
use Rattle.coff_library.specs.Sizes.{counted}
use Rattle.coff_library.specs.Written.{names_size}
use Rattle.coff_library.proofs.layout.names_size.Given as goal

abbrev pub invariant-loop-symbol : goal.invariant-loop-symbol
invariant-loop-symbol l = record {
  small : l.size < 2 ^ 64;
  sum : counted (l.size + names_size (map symbol_view (drop l.symbol-index l.symbols))) ≡ counted (names_size (map symbol_view l.symbols));
}
