use Rattle.pe_text.specs.TextWriter.{IsReady}
use Rattle.pe_page.specs.Page.{AddsSome}
use Rattle.pe_at.proofs.at_headers.write_by_headers.Given as goal

abbrev pub invariant-loop-spot : goal.invariant-loop-spot
invariant-loop-spot g l = record {
  ready : IsReady g.W.Sink.failures l.text;
  adds : AddsSome g.W.Sink.taken g.W.Sink.failures l.fn.text l.text;
}
