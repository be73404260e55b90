-- The member of each symbol is one of so many.
use Rattle.std.proofs.Common.{◌<◌, arith}
use Rattle.coff_library.specs.SymbolView.{symbol_view}
use Rattle.coff_library.specs.Symbols.{Symbol}
use Rattle.coff_library.proofs.Ascending.{no_symbol}
use Rattle.coff_library.proofs.Loops.{at_item}
use Rattle.coff_library.proofs.tables.push_indexes.Goals as goal

pub overflow_cast-symbol : goal.overflow_cast-symbol
overflow_cast-symbol g c =
    let lt = at_item (λ (s : Symbol). s.member < 65535) symbol_view c.args.symbols.now c.loop-symbol.symbol-index no_symbol c.requires.members c.loop-symbol-test.true in
    omega (arith, lt)

pub overflow_add-symbol : goal.overflow_add-symbol
overflow_add-symbol g c =
    let lt = at_item (λ (s : Symbol). s.member < 65535) symbol_view c.args.symbols.now c.loop-symbol.symbol-index no_symbol c.requires.members c.loop-symbol-test.true in
    omega (arith, lt)
