-- One entry more.
use Rattle.std.proofs.Common.{[], ◌∷◌, ◌++◌, true, refl, sym, ap, ◌∙◌, map}
use Rattle.pe_trust.specs.Certificates.{certificate_view, certificates_left}
use Rattle.pe_trust.specs.SignedBytes.{authenticode_bytes}
use Rattle.pe_trust.specs.declared.certificate.Certificates.{Certificates}
use Rattle.pe_view.specs.View.{bytes_of}
use Rattle.pe_json.specs.CertificateRows.{certificate_row}
use Rattle.pe_json.specs.Listed.{items_text}
use Rattle.pe_json.proofs.Objects.{also_items, adds_none, items_more, items_none, left-out}
use Rattle.pe_json.proofs.RowByRow.{row_more, not_first}
use Rattle.pe_json.proofs.certificates.write_each.Goals as goal

pub loop-certificate-init : goal.loop-certificate-init
loop-certificate-init g c =
    let row = certificate_row c.args.of.digests (authenticode_bytes (bytes_of c.args.of.file) c.args.of.headers.now) in
    record {
      can_next = tt;
      is_finite = tt;
      own = c.none-digests.ensures _;
      rows = ([], rw items_none (adds_none c.requires), ap (λ (s : Certificates). map row (certificates_left s)) c.into_iter-certificate-iterator.ensures.into_iter_gives, refl);
    }

pub loop-certificate-preserved : goal.loop-certificate-preserved
loop-certificate-preserved g c =
    let i = c.loop-certificate.invariant.rows in
    let row = certificate_row c.args.of.digests (authenticode_bytes (bytes_of c.args.of.file) c.args.of.headers.now) in
    let e = certificate_view c.in-Some.certificate in
    record {
      can_next = tt;
      is_finite = tt;
      own = c.write_next.ensures.kept;
      rows = (
        i.0 ++ row e ∷ [],
        also_items true i.0 (row e ∷ []) _ i.3 i.1 c.write_next.ensures.adds,
        row_more row i.0 e _ _ _ c.in-Some.ensures.steps i.2,
        not_first i.0 (row e),
      );
    }

pub returns-then-has_failed : goal.returns-then-has_failed
returns-then-has_failed g c =
    let i = c.loop-certificate.invariant.rows in
    let row = certificate_row c.args.of.digests (authenticode_bytes (bytes_of c.args.of.file) c.args.of.headers.now) in
    left-out _ _ _ _ _ i.1 (c.has_failed.ensures.ends c.if-has_failed.true) (sym (items_more true i.0 (map row (certificates_left c.loop-certificate.certificate-iterator))) ∙ ap (items_text true) i.2)
