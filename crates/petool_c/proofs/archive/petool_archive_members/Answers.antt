-- The rows are those of the file's members.
use Rattle.std.proofs.Common.{Bool, List, ℕ, refl}
use Rattle.std.specs.Prelude.{◌≢◌, []}
use Rattle.pe_view.specs.declared.refusal.Refusal.TheVariants as refusals
use Rattle.coff_archive.specs.FileTests.{is_thin_file}
use Rattle.coff_archive.specs.Front.{names_of}
use Rattle.c_tables.specs.MemberRows.{member_row, member_text, whole_members}
use Rattle.c_tables.proofs.Opened.{of_file}
use Rattle.pe_records_c.specs.Rows.{TellsTable}
use Rattle.pe_records_c.proofs.Telling.{refusal_told, told_refuses, table_accepted, table_refused}
use Rattle.petool_c.proofs.archive.petool_archive_members.Goals as goal

pub returns-in-Ok-tell_members : goal.returns-in-Ok-tell_members
returns-in-Ok-tell_members c =
    let file = c.args.file.now in
    let opened = c.in-Ok.ensures in
    let told = c.tell_members in
    table_accepted _ _ member_text (member_row (is_thin_file file) file) _ _ _ _ _ _ _ opened.0
    (of_file (λ thin bytes. TellsTable member_text (member_row thin bytes) (whole_members thin bytes) c.args.rows.now told.new.rows told.new.count c.in-Ok-tell_members.status) c.in-Ok.archive file opened.1.0 opened.1.1 c.in-Ok-tell_members.ensures.told)

pub returns-in-Err-tell_members : goal.returns-in-Err-tell_members
returns-in-Err-tell_members c =
    let opened = c.in-Ok.ensures in
    let refused = c.in-Err-tell_members.ensures in
    let takes = of_file (λ thin bytes. names_of thin bytes ≢ []) c.in-Ok.archive c.args.file.now opened.1.0 opened.1.1 refused.memory in
    record {
      faults = refusal_told _ _ refusals.Memory c.args.fault.now c.args.fault.now 2 tt (λ _. (opened.0, takes)) (refl, refl);
      table_is = λ accepted. told_refuses refusals.Memory c.args.fault.now c.args.fault.now 2 (refl, refl) accepted;
      rows_kept = λ _. refused.rows_kept;
      count_kept = λ _. refused.count_kept;
    }

pub returns-in-Err : goal.returns-in-Err
returns-in-Err c =
    table_refused _ _ _ _ _ _ _ _ _ _ (refusals.Fault c.in-Err.first) c.in-Err.ensures (λ e. absurd cc e) (c.refuse.ensures.status, c.refuse.ensures.told)
