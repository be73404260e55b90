-- The member of each symbol is one of so many.
use Rattle.std.proofs.Common.{◌<◌, length, arith}
use Rattle.coff_library.specs.SymbolView.{symbol_view}
use Rattle.coff_library.specs.Symbols.{Symbol}
use Rattle.coff_library.proofs.Ascending.{no_symbol}
use Rattle.coff_library.proofs.Loops.{at_item}
use Rattle.coff_library.proofs.tables.push_symbol_offsets.Goals as goal

pub bounds-offsets-symbol : goal.bounds-offsets-symbol
bounds-offsets-symbol g c =
    let lt = at_item (λ (s : Symbol). s.member < length c.args.offsets.now) symbol_view c.args.symbols.now c.loop-symbol.symbol-index no_symbol c.requires c.loop-symbol-test.true in
    omega (arith, lt)
