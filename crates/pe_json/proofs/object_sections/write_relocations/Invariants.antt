use Rattle.std.proofs.Common.{true, take, map}
use Rattle.coff_read.specs.FileView.{relocations_view}
use Rattle.pe_text.specs.TextWriter.{Adds}
use Rattle.pe_json.specs.Listed.{items_text}
use Rattle.pe_json.specs.ObjectLine.{relocation_row}
use Rattle.pe_json.proofs.object_sections.write_relocations.Given as goal

abbrev pub invariant-loop-index : goal.invariant-loop-index
invariant-loop-index g l = record {
  adds : Adds g.W.Sink.taken g.W.Sink.failures l.initial.text l.text (items_text true (take l.index (map (relocation_row l.machine) (relocations_view l.relocations))));
}
