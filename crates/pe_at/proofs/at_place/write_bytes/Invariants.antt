use Rattle.pe_text.specs.TextWriter.{IsReady}
use Rattle.pe_page.specs.Page.{AddsSome}
use Rattle.pe_at.proofs.at_place.write_bytes.Given as goal

abbrev pub invariant-loop-at : goal.invariant-loop-at
invariant-loop-at g l = record {
  ready : IsReady g.W.Sink.failures l.text;
  adds : AddsSome g.W.Sink.taken g.W.Sink.failures l.fn.text l.text;
}
