use Rattle.std.proofs.Common.{take}
use Rattle.std.specs.Prelude.{flat_map}
use Rattle.pe_map_lines.specs.MapReport.{byte_text}
use Rattle.pe_text.specs.TextWriter.{Adds}
use Rattle.pe_map_lines.proofs.map_lines.write_bytes.Given as goal

abbrev pub invariant-loop-byte : goal.invariant-loop-byte
invariant-loop-byte g l = record {
  adds : Adds g.W.Sink.taken g.W.Sink.failures l.initial.line l.line (flat_map byte_text (take l.byte-index l.bytes));
}
