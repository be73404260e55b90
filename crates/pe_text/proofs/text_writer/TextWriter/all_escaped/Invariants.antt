use Rattle.std.proofs.Common.{take, length, ◌≤◌, ◌-◌}
use Rattle.std.specs.Prelude.{flat_map}
use Rattle.pe_text.specs.Text.{escaped}
use Rattle.pe_text.specs.TextWriter.{Adds}
use Rattle.pe_text.proofs.text_writer.TextWriter.all_escaped.Given as goal

abbrev pub invariant-loop-at : goal.invariant-loop-at
invariant-loop-at g l = record {
  within : l.at ≤ length l.bytes;
  adds : Adds g.W.Sink.taken g.W.Sink.failures l.initial.self l.self (flat_map escaped (take l.at l.bytes));
}

abbrev pub decreases-loop-at : goal.decreases-loop-at
decreases-loop-at g l = length l.bytes - l.at
