use Rattle.std.proofs.Common.{take}
use Rattle.std.specs.Prelude.{flat_map}
use Rattle.pe_text.specs.Text.{hex}
use Rattle.pe_text.specs.TextWriter.{Adds}
use Rattle.pe_json.proofs.string.write_digits.Given as goal

abbrev pub invariant-loop-byte : goal.invariant-loop-byte
invariant-loop-byte g l = record {
  adds : Adds g.W.Sink.taken g.W.Sink.failures l.initial.text l.text (flat_map (hex 2) (take l.byte-index l.bytes));
}
