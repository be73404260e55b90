use Rattle.std.proofs.Common.{◌≡◌, ◌+◌, ◌++◌, drop}
use Rattle.std.specs.Prelude.{map}
use Rattle.coff_library.specs.SymbolView.{symbol_view}
use Rattle.pe_numbers.specs.declared.number.Number.TheVariants.{U16}
use Rattle.pe_numbers.specs.Numbers.{numbers_bytes}
use Rattle.coff_library.specs.Symbols.{Symbol}
use Rattle.coff_library.proofs.tables.push_indexes.Given as goal

abbrev pub invariant-loop-symbol : goal.invariant-loop-symbol
invariant-loop-symbol g l =
    l.bytes.items ++ numbers_bytes (map (λ (s : Symbol). U16 (s.member + 1)) (map symbol_view (drop l.symbol-index l.symbols)))
    ≡ l.initial.bytes.items ++ numbers_bytes (map (λ (s : Symbol). U16 (s.member + 1)) (map symbol_view l.symbols))
