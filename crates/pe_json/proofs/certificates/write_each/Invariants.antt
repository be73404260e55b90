use Rattle.std.proofs.Common.{◌≡◌, ◌++◌, true, ℕ, List, map}
use Rattle.pe_text.specs.TextWriter.{Adds}
use Rattle.pe_trust.specs.Certificates.{certificates_left}
use Rattle.pe_trust.specs.DigestsView.{AreDigestsOf}
use Rattle.pe_trust.specs.SignedBytes.{authenticode_bytes}
use Rattle.pe_view.specs.View.{bytes_of}
use Rattle.pe_json.specs.CertificateRows.{certificate_row}
use Rattle.pe_json.specs.Listed.{is_nil, items_text}
use Rattle.pe_json.proofs.certificates.write_each.Given as goal

abbrev pub invariant-loop-certificate : goal.invariant-loop-certificate
invariant-loop-certificate g l = record {
  can_next : (goal.iterator-loop-certificate g).can_next l.certificate-iterator;
  is_finite : (goal.iterator-loop-certificate g).is_finite l.certificate-iterator;
  own : AreDigestsOf (authenticode_bytes (bytes_of l.of.file) l.of.headers.now) l.digests;
  rows : (written : List (List ℕ)) × Adds g.W.Sink.taken g.W.Sink.failures l.initial.text l.text (items_text true written)
      × (written ++ map (certificate_row l.of.digests (authenticode_bytes (bytes_of l.of.file) l.of.headers.now)) (certificates_left l.certificate-iterator)
      ≡ map (certificate_row l.of.digests (authenticode_bytes (bytes_of l.of.file) l.of.headers.now)) (certificates_left l.certificates))
      × (l.first ≡ is_nil written);
}
