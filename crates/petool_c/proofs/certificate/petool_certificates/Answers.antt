-- What is told by the headers holds for the file.
use Rattle.std.proofs.Common.{ℕ, List, subst}
use Rattle.pe_view.specs.declared.refusal.Refusal.TheVariants as refusals
use Rattle.pe_head.specs.declared.headers.Headers.{Headers}
use Rattle.pe_records_c.specs.Rows.{TellsTable}
use Rattle.pe_records_c.proofs.Telling.{table_accepted, table_refused}
use Rattle.c_tables.specs.CertificateRows.{certificates, certificate_text}
use Rattle.petool_c.proofs.certificate.petool_certificates.Goals as goal

pub returns-in-Ok : goal.returns-in-Ok
returns-in-Ok c =
    let held = c.in-Ok.ensures in
    let told = c.tell_certificates in
    let of_file = subst (λ (bytes : List ℕ). TellsTable certificate_text (λ entry. entry) (certificates bytes c.in-Ok.headers) c.args.rows.now told.new.rows told.new.count told.result) c.new.ensures told.ensures in
    table_accepted _ _ certificate_text _ _ _ _ _ _ _ _ held.0
    (subst (λ (h : Headers). TellsTable certificate_text (λ entry. entry) (certificates c.args.file.now h) c.args.rows.now told.new.rows told.new.count told.result) held.1 of_file)

pub returns-in-Err : goal.returns-in-Err
returns-in-Err c =
    table_refused _ _ _ _ _ _ _ _ _ _ (refusals.Fault c.in-Err.first) c.in-Err.ensures (λ e. absurd cc e) (c.refuse.ensures.status, c.refuse.ensures.told)
