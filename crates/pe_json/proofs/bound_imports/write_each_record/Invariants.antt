use Rattle.std.proofs.Common.{true, take, map}
use Rattle.pe_layout.specs.Layout.{image_of}
use Rattle.pe_text.specs.TextWriter.{Adds}
use Rattle.pe_json.specs.Listed.{items_text}
use Rattle.pe_json.specs.BoundRows.{bound_records, bound_row}
use Rattle.pe_json.proofs.bound_imports.write_each_record.Given as goal

abbrev pub invariant-loop-index : goal.invariant-loop-index
invariant-loop-index g l = record {
  adds : Adds g.W.Sink.taken g.W.Sink.failures l.initial.text l.text (items_text true (take l.index (map (bound_row (image_of l.layout) l.start) (bound_records (image_of l.layout)))));
}
