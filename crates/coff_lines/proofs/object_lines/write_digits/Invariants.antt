use Rattle.std.proofs.Common.{take}
use Rattle.std.specs.Prelude.{flat_map}
use Rattle.pe_text.specs.Text.{hex}
use Rattle.pe_text.specs.TextWriter.{Adds}
use Rattle.coff_lines.proofs.object_lines.write_digits.Given as goal

abbrev pub invariant-loop-byte : goal.invariant-loop-byte
invariant-loop-byte g l = record {
  adds : Adds g.W.Sink.taken g.W.Sink.failures l.initial.line l.line (flat_map (hex 2) (take l.byte-index l.bytes));
}
