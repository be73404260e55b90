use Rattle.std.proofs.Common.{◌≡◌, ◌++◌, drop}
use Rattle.std.specs.Prelude.{map}
use Rattle.coff_library.specs.SymbolView.{symbol_view}
use Rattle.std.specs.Prelude.{slice_index}
use Rattle.std.specs.List.{flat_map}
use Rattle.byteorder.specs.Endian.{big_bytes}
use Rattle.coff_library.specs.Symbols.{Symbol}
use Rattle.coff_library.proofs.tables.push_symbol_offsets.Given as goal

abbrev pub invariant-loop-symbol : goal.invariant-loop-symbol
invariant-loop-symbol g l =
    l.bytes.items ++ flat_map (λ (s : Symbol). big_bytes 4 (slice_index l.offsets s.member)) (map symbol_view (drop l.symbol-index l.symbols))
    ≡ l.initial.bytes.items ++ flat_map (λ (s : Symbol). big_bytes 4 (slice_index l.offsets s.member)) (map symbol_view l.symbols)
