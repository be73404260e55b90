-- One more signature of those that are left.
use Rattle.std.proofs.Common.{◌≤◌, ◌∙◌, List, length, map, set, sym, ap, arith}
use Rattle.std.specs.List.{filter}
use Rattle.pe_view.specs.View.{bytes_of}
use Rattle.pe_records_c.proofs.Left.{first_left, none_left}
use Rattle.pe_trust.specs.Certificates.{certificate_view, certificates_left}
use Rattle.pe_trust.specs.SignedBytes.{authenticode_bytes}
use Rattle.pe_trust.specs.declared.certificate.Certificates.{Certificates}
use Rattle.c_tables.specs.SignatureRows.{SignatureText, is_signature, signature_row, signature_text}
use Rattle.c_tables.proofs.FewRows.{few_certificates, few_filtered, got_within}
use Rattle.c_tables.proofs.FilledRows.{filled_all, filled_more, filled_none}
use Rattle.c_tables.proofs.Signed.{picked}
use Rattle.c_tables.proofs.signature.put_signatures.Goals as goal

pub loop-certificate-init : goal.loop-certificate-init
loop-certificate-init c = record {
  told = sym (filled_none (signature_row (bytes_of c.args.file) c.args.headers.now) (map signature_text c.args.rows.now));
  left = ap (λ (cs : Certificates). filter is_signature (certificates_left cs)) (sym c.into_iter-certificate-iterator.ensures.into_iter_gives);
  within = omega arith;
  digests = c.none-digests.ensures (authenticode_bytes (bytes_of c.args.file) c.args.headers.now);
}

pub loop-certificate-preserved : goal.loop-certificate-preserved
loop-certificate-preserved c =
    let i = c.loop-certificate.invariant in
    let all = filter is_signature (certificates_left c.args.certificates) in
    let row = signature_row (bytes_of c.args.file) c.args.headers.now in
    let shown = certificate_view c.in-Some.certificate in
    let rest = certificates_left c.next.new.self in
    let here = ap (filter is_signature) c.in-Some.ensures.steps ∙ picked shown rest c.if-certificate-ne-SIGNED_DATA.false in
    let next = first_left all c.loop-certificate.count shown (filter is_signature rest) (i.left ∙ here) in
    record {
      told =
          c.put_signature.ensures.row
          ∙ ap (λ (rows : List SignatureText). set rows c.loop-certificate.count (row shown)) i.told
          ∙ filled_more row all (map signature_text c.args.rows.now) c.loop-certificate.count shown next.0;
      left = next.1;
      within = got_within all c.loop-certificate.count shown next.0;
      digests = c.put_signature.ensures.kept;
    }

pub overflow_add-count : goal.overflow_add-count
overflow_add-count c =
    let within = (loop-certificate-preserved c).within in
    let picked_few = few_filtered is_signature (certificates_left c.args.certificates) in
    let few = few_certificates c.args.certificates in
    omega (arith, within, picked_few, few)

pub returns-clause-rows : goal.returns-clause-rows
returns-clause-rows c =
    let i = c.loop-certificate.invariant in
    let all = filter is_signature (certificates_left c.args.certificates) in
    let end : length all ≤ c.loop-certificate.count = none_left all c.loop-certificate.count (i.left ∙ ap (filter is_signature) c.in-None.ensures.steps.0) in
    i.told ∙ filled_all (signature_row (bytes_of c.args.file) c.args.headers.now) all (map signature_text c.args.rows.now) c.loop-certificate.count end

pub returns-clause-count : goal.returns-clause-count
returns-clause-count c =
    let i = c.loop-certificate.invariant in
    let all = filter is_signature (certificates_left c.args.certificates) in
    let end : length all ≤ c.loop-certificate.count = none_left all c.loop-certificate.count (i.left ∙ ap (filter is_signature) c.in-None.ensures.steps.0) in
    let within = i.within in
    omega (arith, end, within)
