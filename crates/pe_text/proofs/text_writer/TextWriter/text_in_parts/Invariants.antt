use Rattle.std.proofs.Common.{take, length, ◌≤◌, ◌-◌}
use Rattle.pe_text.specs.TextWriter.{Adds}
use Rattle.pe_text.proofs.text_writer.TextWriter.text_in_parts.Given as goal

abbrev pub invariant-loop-at : goal.invariant-loop-at
invariant-loop-at g l = record {
  within : l.at ≤ length l.bytes;
  adds : Adds g.W.Sink.taken g.W.Sink.failures l.initial.self l.self (take l.at l.bytes);
}

abbrev pub decreases-loop-at : goal.decreases-loop-at
decreases-loop-at g l = length l.bytes - l.at
