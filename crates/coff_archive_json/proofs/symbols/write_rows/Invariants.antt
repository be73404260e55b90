use Rattle.std.proofs.Common.{List, ℕ, ◌≡◌, ◌++◌, true, map}
use Rattle.coff_archive.specs.SymbolsLeft.{symbols_left}
use Rattle.pe_text.specs.TextWriter.{Adds}
use Rattle.pe_json.specs.Listed.{is_nil, items_text}
use Rattle.coff_archive_json.specs.SymbolRows.{symbol_row}
use Rattle.coff_archive_json.proofs.symbols.write_rows.Given as goal

abbrev pub invariant-loop-symbol : goal.invariant-loop-symbol
invariant-loop-symbol g l = (written : List (List ℕ)) × Adds g.W.Sink.taken g.W.Sink.failures l.initial.text l.text (items_text true written)
    × (written ++ map symbol_row (symbols_left l.symbol-iterator) ≡ map symbol_row (symbols_left l.initial.symbols))
    × (l.first ≡ is_nil written)
