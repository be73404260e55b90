-- One more certificate of those that are left.
use Rattle.std.proofs.Common.{◌≤◌, ◌∙◌, length, arith}
use Rattle.pe_records_c.proofs.Left.{first_left, none_left}
use Rattle.pe_trust.specs.Certificates.{certificate_view, certificates_left}
use Rattle.c_tables.specs.CertificateRows.{certificate_text}
use Rattle.c_tables.proofs.FewRows.{few_certificates, got_within}
use Rattle.c_tables.proofs.FilledRows.{filled_all, row_stored}
use Rattle.c_tables.proofs.certificate.put_certificates.Goals as goal

pub loop-certificate-preserved : goal.loop-certificate-preserved
loop-certificate-preserved c =
    let i = c.loop-certificate.invariant in
    let all = certificates_left c.args.certificates in
    let shown = certificate_view c.in-Some.certificate in
    let next = first_left all c.loop-certificate.count shown (certificates_left c.next.new.self) (i.left ∙ c.in-Some.ensures.steps) in
    record {
      told = row_stored certificate_text (λ entry. entry) all _ c.loop-certificate.rows c.put_row.new.rows c.loop-certificate.count shown c.of.result next.0 i.told c.of.ensures c.put_row.ensures;
      left = next.1;
      within = got_within all c.loop-certificate.count shown next.0;
    }

pub overflow_add-count : goal.overflow_add-count
overflow_add-count c =
    let within = (loop-certificate-preserved c).within in
    let few = few_certificates c.args.certificates in
    omega (arith, within, few)

pub returns-clause-rows : goal.returns-clause-rows
returns-clause-rows c =
    let i = c.loop-certificate.invariant in
    let all = certificates_left c.args.certificates in
    let end : length all ≤ c.loop-certificate.count = none_left all c.loop-certificate.count (i.left ∙ c.in-None.ensures.steps.0) in
    i.told ∙ filled_all (λ entry. entry) all _ c.loop-certificate.count end

pub returns-clause-count : goal.returns-clause-count
returns-clause-count c =
    let i = c.loop-certificate.invariant in
    let all = certificates_left c.args.certificates in
    let end : length all ≤ c.loop-certificate.count = none_left all c.loop-certificate.count (i.left ∙ c.in-None.ensures.steps.0) in
    let within = i.within in
    omega (arith, end, within)
