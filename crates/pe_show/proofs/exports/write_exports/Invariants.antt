use Rattle.pe_text.specs.TextWriter.{IsReady}
use Rattle.pe_page.specs.Page.{AddsSome}
use Rattle.pe_show.proofs.exports.write_exports.Given as goal

abbrev pub invariant-loop-ordinal : goal.invariant-loop-ordinal
invariant-loop-ordinal g l = record {
  ready : IsReady g.W.Sink.failures l.text;
  adds : AddsSome g.W.Sink.taken g.W.Sink.failures l.fn.text l.text;
}
