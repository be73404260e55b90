use Rattle.std.proofs.Common.{◌∙◌, ◌+◌, ℕ, sym, ap, arith}
use Rattle.pe_view.specs.View.{bytes_of}
use Rattle.pe_trust.specs.Certificates.{Entry, certificate_view}
use Rattle.pe_trust.specs.CertificateTests.{stop_of}
use Rattle.pe_trust.proofs.OneEntry.{stop_here, stop_step}
use Rattle.pe_trust.proofs.certificate_finding.stop_of.Goals as goal

pub loop-certificate-preserved : goal.loop-certificate-preserved
loop-certificate-preserved c =
    let file = bytes_of c.args.file in
    let x : Entry = certificate_view c.in-Some.certificate in
    let padded = c.padded-at.ensures in
    let fits = c.in-Some.ensures.fits in
    let end = c.min-end.ensures in
    let start = c.from-at.ensures in
    let size = c.from.ensures in (
      ap (λ (n : ℕ). stop_of file c.min-end.result (c.loop-certificate.at + n)) padded ∙ sym (stop_step file c.min-end.result c.loop-certificate.at x c.in-Some.ensures.value) ∙ c.loop-certificate.invariant.0,
      omega (arith, padded, fits, end, start, size),
    )

pub returns : goal.returns
returns c = sym (stop_here (bytes_of c.args.file) c.min-end.result c.loop-certificate.at c.in_default.ensures.value) ∙ c.loop-certificate.invariant.0
