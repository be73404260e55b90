use Rattle.std.proofs.Common.{List, ℕ, ◌≡◌, ◌++◌}
use Rattle.std.specs.Prelude.{flat_map}
use Rattle.coff_read.specs.BigLeft.{indexed}
use Rattle.coff_read.specs.EitherLeft.{either_symbols_left}
use Rattle.coff_read.specs.EitherObject.{form_of, file_of}
use Rattle.coff_read.specs.FormReading.{symbol_indexes}
use Rattle.pe_text.specs.TextWriter.{Adds}
use Rattle.coff_lines.proofs.ObjectPlaces.{item_lines}
use Rattle.coff_lines.proofs.object_lines.write_symbols.Given as goal

abbrev pub invariant-loop-index : goal.invariant-loop-index
invariant-loop-index g l =
    let big = form_of l.object in
    (written : List ℕ) × Adds g.W.Sink.taken g.W.Sink.failures l.initial.text l.text written
    × (written ++ flat_map (item_lines big) (either_symbols_left l.index-iterator) ≡ flat_map (item_lines big) (indexed big (file_of l.object) (symbol_indexes big (file_of l.object))))
