-- All names are counted.
use Rattle.std.proofs.Common.{refl}
use Rattle.std.specs.Prelude.{map}
use Rattle.coff_library.specs.SymbolView.{symbol_view}
use Rattle.coff_library.specs.Written.{names_size}
use Rattle.coff_library.proofs.Loops.{all_counted}
use Rattle.coff_library.proofs.layout.names_size.Goals as goal

pub returns : goal.returns
returns c = all_counted (λ xs. names_size (map symbol_view xs)) c.args.symbols.now c.loop-symbol.symbol-index _ _ c.loop-symbol-test.false c.loop-symbol.invariant.small refl c.loop-symbol.invariant.sum
