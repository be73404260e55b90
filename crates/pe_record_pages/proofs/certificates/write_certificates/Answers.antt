use Rattle.pe_page.proofs.Adding.{◌and◌}
use Rattle.pe_record_pages.proofs.certificates.write_certificates.Goals as goal

pub loop-certificate-preserved : goal.loop-certificate-preserved
loop-certificate-preserved g c = record {
  ready = c.write_certificate.ensures.adds.1.ready;
  adds = c.loop-certificate.invariant.adds and c.write_certificate.ensures.adds;
  digests = c.write_certificate.ensures.kept;
}
