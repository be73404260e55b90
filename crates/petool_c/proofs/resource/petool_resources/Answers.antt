-- The rows are those of the image's tree.
use Rattle.std.proofs.Common.{refl, subst}
use Rattle.std.specs.Prelude.{◌≢◌, None}
use Rattle.pe_view.specs.declared.refusal.Refusal.TheVariants as refusals
use Rattle.pe_layout.specs.Image.{LaidOut, image_of_file}
use Rattle.pe_records_c.specs.Rows.{TellsTable}
use Rattle.pe_records_c.proofs.Telling.{refusal_told, told_refuses, table_accepted, table_refused}
use Rattle.pe_resources.specs.Walk.{leaves_of}
use Rattle.c_tables.specs.ResourceRows.{resource_row, resource_text}
use Rattle.petool_c.proofs.resource.petool_resources.Goals as goal

pub returns-in-Ok-tell_resources : goal.returns-in-Ok-tell_resources
returns-in-Ok-tell_resources c =
    let laid = c.in-Ok.ensures in
    let told = c.tell_resources in
    table_accepted _ _ resource_text (resource_row (image_of_file 0 c.args.file.now)) _ _ _ _ _ _ _ laid.0
    (subst (λ (i : LaidOut). TellsTable resource_text (resource_row i) (leaves_of i) c.args.rows.now told.new.rows told.new.count c.in-Ok-tell_resources.status) laid.1.shows c.in-Ok-tell_resources.ensures.told)

pub returns-in-Err-tell_resources : goal.returns-in-Err-tell_resources
returns-in-Err-tell_resources c =
    let laid = c.in-Ok.ensures in
    let refused = c.in-Err-tell_resources.ensures in
    let takes = subst (λ (i : LaidOut). i.directory 2 ≢ None) laid.1.shows refused.memory in
    record {
      faults = refusal_told _ _ refusals.Memory c.args.fault.now c.args.fault.now 2 tt (λ _. (laid.0, takes)) (refl, refl);
      table_is = λ accepted. told_refuses refusals.Memory c.args.fault.now c.args.fault.now 2 (refl, refl) accepted;
      rows_kept = λ _. refused.rows_kept;
      count_kept = λ _. refused.count_kept;
    }

pub returns-in-Err : goal.returns-in-Err
returns-in-Err c =
    table_refused _ _ _ _ _ _ _ _ _ _ (refusals.Fault c.in-Err.first) c.in-Err.ensures (λ e. absurd cc e) (c.refuse.ensures.status, c.refuse.ensures.told)
