use Rattle.std.proofs.Common.{◌≡◌, ◌≤◌, length, map, take, drop}
use Rattle.pe_records_c.specs.Rows.{filled}
use Rattle.pe_trust.specs.Certificates.{certificates_left}
use Rattle.c_tables.specs.CertificateRows.{certificate_text}
use Rattle.c_tables.proofs.certificate.put_certificates.Given as goal

abbrev pub invariant-loop-certificate : goal.invariant-loop-certificate
invariant-loop-certificate l = record {
  told : map certificate_text l.rows ≡ filled (λ entry. entry) (take l.count (certificates_left l.certificates)) (map certificate_text l.initial.rows);
  left : drop l.count (certificates_left l.certificates) ≡ certificates_left l.certificate-iterator;
  within : l.count ≤ length (certificates_left l.certificates);
}
