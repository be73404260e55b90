use Rattle.pe_view.specs.View.{bytes_of}
use Rattle.pe_trust.specs.DigestsView.{AreDigestsOf}
use Rattle.pe_trust.specs.SignedBytes.{authenticode_bytes}
use Rattle.pe_text.specs.TextWriter.{IsReady}
use Rattle.pe_page.specs.Page.{AddsSome}
use Rattle.pe_record_pages.proofs.certificates.write_certificates.Given as goal

abbrev pub invariant-loop-certificate : goal.invariant-loop-certificate
invariant-loop-certificate g l = record {
  ready : IsReady g.W.Sink.failures l.text;
  adds : AddsSome g.W.Sink.taken g.W.Sink.failures l.fn.text l.text;
  digests : AreDigestsOf (authenticode_bytes (bytes_of l.file) l.headers) l.digests;
}
