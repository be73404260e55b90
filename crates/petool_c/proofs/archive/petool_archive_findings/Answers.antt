-- The rows are those of the file's findings.
use Rattle.std.proofs.Common.{◌∙◌, List, refl, subst}
use Rattle.std.specs.Prelude.{◌≢◌, []}
use Rattle.pe_view.specs.declared.fault.Fault.{Fault}
use Rattle.pe_view.specs.declared.refusal.Refusal.TheVariants as refusals
use Rattle.c_tables.specs.ArchiveFindings.{archive_findings_of}
use Rattle.c_tables.proofs.Opened.{of_file}
use Rattle.pe_records_c.specs.Faults.{fault_record}
use Rattle.pe_records_c.specs.Rows.{TellsTable}
use Rattle.pe_records_c.proofs.Telling.{table_accepted, table_refused}
use Rattle.petool_c.proofs.archive.petool_archive_findings.Goals as goal

pub returns-in-Ok-archive_findings : goal.returns-in-Ok-archive_findings
returns-in-Ok-archive_findings c =
    let opened = c.in-Ok.ensures in
    let told = c.tell_findings in
    let found = c.as_slice.ensures.value ∙ c.in-Ok-archive_findings.ensures.all in
    let all = subst (λ (faults : List Fault). TellsTable (λ r. r) fault_record faults c.args.rows.now told.new.rows told.new.count told.result) found told.ensures in
    table_accepted _ _ (λ r. r) fault_record _ _ _ _ _ _ _ opened.0
    (of_file (λ thin bytes. TellsTable (λ r. r) fault_record (archive_findings_of thin bytes) c.args.rows.now told.new.rows told.new.count told.result) c.in-Ok.archive c.args.file.now opened.1.0 opened.1.1 all)

pub returns-in-Err-archive_findings : goal.returns-in-Err-archive_findings
returns-in-Err-archive_findings c =
    let opened = c.in-Ok.ensures in
    let takes = of_file (λ thin bytes. archive_findings_of thin bytes ≢ []) c.in-Ok.archive c.args.file.now opened.1.0 opened.1.1 c.in-Err-archive_findings.ensures.memory in
    table_refused _ _ _ _ _ _ _ _ _ _ refusals.Memory tt (λ _. (opened.0, takes)) (refl, refl)

pub returns-in-Err : goal.returns-in-Err
returns-in-Err c =
    table_refused _ _ _ _ _ _ _ _ _ _ (refusals.Fault c.in-Err.first) c.in-Err.ensures (λ e. absurd cc e) (c.refuse.ensures.status, c.refuse.ensures.told)
