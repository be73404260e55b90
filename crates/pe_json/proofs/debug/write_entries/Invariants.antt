use Rattle.std.proofs.Common.{true, take, map}
use Rattle.pe_layout.specs.Layout.{image_of}
use Rattle.pe_text.specs.TextWriter.{Adds}
use Rattle.pe_json.specs.Listed.{items_text}
use Rattle.pe_json.specs.DebugRows.{debug_entries, debug_row}
use Rattle.pe_json.proofs.debug.write_entries.Given as goal

abbrev pub invariant-loop-index : goal.invariant-loop-index
invariant-loop-index g l = record {
  adds : Adds g.W.Sink.taken g.W.Sink.failures l.initial.text l.text (items_text true (take l.index (map debug_row (debug_entries (image_of l.layout)))));
}
