use Rattle.std.proofs.Common.{length, ◌≤◌, ◌-◌}
use Rattle.pe_text.specs.TextWriter.{IsReady}
use Rattle.pe_page.specs.Page.{AddsSome}
use Rattle.pe_show.proofs.imports.write_listed.Given as goal

abbrev pub invariant-loop-at : goal.invariant-loop-at
invariant-loop-at g l = record {
  within : l.at ≤ length l.imports;
  ready : IsReady g.W.Sink.failures l.text;
  adds : AddsSome g.W.Sink.taken g.W.Sink.failures l.fn.text l.text;
}

abbrev pub decreases-loop-at : goal.decreases-loop-at
decreases-loop-at g l = length l.imports - l.at
