use Rattle.pe_text.specs.TextWriter.{IsReady}
use Rattle.pe_page.specs.Page.{AddsSome}
use Rattle.pe_show.proofs.imports.write_module.Given as goal

abbrev pub invariant-loop-import : goal.invariant-loop-import
invariant-loop-import g l = record {
  ready : IsReady g.W.Sink.failures l.text;
  adds : AddsSome g.W.Sink.taken g.W.Sink.failures l.fn.text l.text;
}
