use Rattle.std.proofs.Common.{take}
use Rattle.json.specs.Print.{escape}
use Rattle.pe_text.specs.TextWriter.{Adds}
use Rattle.pe_json.proofs.string.write_bytes.Given as goal

abbrev pub invariant-loop-byte : goal.invariant-loop-byte
invariant-loop-byte g l = record {
  adds : Adds g.W.Sink.taken g.W.Sink.failures l.initial.text l.text (escape (take l.byte-index l.bytes));
}
