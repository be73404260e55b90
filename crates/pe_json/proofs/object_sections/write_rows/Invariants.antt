use Rattle.std.proofs.Common.{true, take}
use Rattle.coff_read.specs.EitherObject.{form_of, file_of}
use Rattle.coff_read.specs.FormReading.{object_of}
use Rattle.pe_text.specs.TextWriter.{Adds}
use Rattle.pe_json.specs.JsonText.{numbered_rows}
use Rattle.pe_json.specs.Listed.{items_text}
use Rattle.pe_json.specs.ObjectLine.{object_section_row, sections_of}
use Rattle.pe_json.proofs.object_sections.write_rows.Given as goal

abbrev pub invariant-loop-index : goal.invariant-loop-index
invariant-loop-index g l = record {
  adds : Adds g.W.Sink.taken g.W.Sink.failures l.initial.text l.text (items_text true (take l.index (numbered_rows (object_section_row (object_of (form_of l.object) (file_of l.object)).machine) 1 (sections_of (form_of l.object) (file_of l.object)))));
}
