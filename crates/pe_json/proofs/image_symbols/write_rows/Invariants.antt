use Rattle.std.proofs.Common.{List, ℕ, ◌≡◌, ◌++◌, true, map}
use Rattle.coff_read.specs.ImageSymbolsLeft.{image_symbols_left}
use Rattle.pe_text.specs.TextWriter.{Adds}
use Rattle.pe_json.specs.Listed.{is_nil, items_text}
use Rattle.pe_json.specs.SymbolRows.{indexed_row}
use Rattle.pe_json.proofs.image_symbols.write_rows.Given as goal

abbrev pub invariant-loop-index : goal.invariant-loop-index
invariant-loop-index g l = (written : List (List ℕ)) × Adds g.W.Sink.taken g.W.Sink.failures l.initial.text l.text (items_text true written)
    × (written ++ map indexed_row (image_symbols_left l.index-iterator) ≡ map indexed_row (image_symbols_left l.fn.symbols))
    × (l.first ≡ is_nil written)
