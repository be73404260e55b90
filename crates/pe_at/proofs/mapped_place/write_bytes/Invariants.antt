use Rattle.pe_text.specs.TextWriter.{IsReady}
use Rattle.pe_page.specs.Page.{AddsSome}
use Rattle.pe_at.proofs.mapped_place.write_bytes.Given as goal

abbrev pub invariant-loop-byte : goal.invariant-loop-byte
invariant-loop-byte g l = record {
  ready : IsReady g.W.Sink.failures l.text;
  adds : AddsSome g.W.Sink.taken g.W.Sink.failures l.fn.text l.text;
}
