use Rattle.std.proofs.Common.{List, ℕ, ◌≡◌, ◌++◌, true, map}
use Rattle.coff_read.specs.BigLeft.{indexed}
use Rattle.coff_read.specs.EitherLeft.{either_symbols_left}
use Rattle.coff_read.specs.EitherObject.{form_of, file_of}
use Rattle.coff_read.specs.FormReading.{symbol_indexes}
use Rattle.pe_text.specs.TextWriter.{Adds}
use Rattle.pe_json.specs.Listed.{is_nil, items_text}
use Rattle.pe_json.specs.ObjectLine.{symbol_row}
use Rattle.pe_json.proofs.symbols.write_rows.Given as goal

abbrev pub invariant-loop-index : goal.invariant-loop-index
invariant-loop-index g l =
    let big = form_of l.object in
    (written : List (List ℕ)) × Adds g.W.Sink.taken g.W.Sink.failures l.initial.text l.text (items_text true written)
    × (written ++ map (λ item. symbol_row big item.0 item.1) (either_symbols_left l.index-iterator) ≡ map (λ item. symbol_row big item.0 item.1) (indexed big (file_of l.object) (symbol_indexes big (file_of l.object))))
    × (l.first ≡ is_nil written)
