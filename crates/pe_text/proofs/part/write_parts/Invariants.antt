use Rattle.std.proofs.Common.{take}
use Rattle.std.specs.Prelude.{flat_map}
use Rattle.pe_text.specs.Part.{part_text}
use Rattle.pe_text.specs.TextWriter.{Adds}
use Rattle.pe_text.proofs.part.write_parts.Given as goal

abbrev pub invariant-loop-part : goal.invariant-loop-part
invariant-loop-part g l = record {
  adds : Adds g.W.Sink.taken g.W.Sink.failures l.initial.line l.line (flat_map part_text (take l.part-index l.parts));
}
