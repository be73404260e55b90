-- What is told of the image holds for that of the file.
use Rattle.std.proofs.Common.{subst}
use Rattle.pe_view.specs.declared.refusal.Refusal.TheVariants as refusals
use Rattle.pe_layout.specs.Image.{LaidOut}
use Rattle.pe_records_c.specs.Rows.{TellsTable}
use Rattle.pe_records_c.proofs.Telling.{table_accepted, table_refused}
use Rattle.c_tables.specs.FieldRows.{clr_values, field_row}
use Rattle.petool_c.proofs.field.petool_clr.Goals as goal

pub returns-in-Ok : goal.returns-in-Ok
returns-in-Ok c =
    let laid = c.in-Ok.ensures in
    table_accepted _ _ (λ r. r) field_row _ _ _ _ _ _ _ laid.0
    (subst (λ (i : LaidOut). TellsTable (λ r. r) field_row (clr_values i) c.args.rows.now c.tell_clr.new.rows c.tell_clr.new.count c.tell_clr.result) laid.1.shows c.tell_clr.ensures)

pub returns-in-Err : goal.returns-in-Err
returns-in-Err c =
    table_refused _ _ _ _ _ _ _ _ _ _ (refusals.Fault c.in-Err.first) c.in-Err.ensures (λ e. absurd cc e) (c.refuse.ensures.status, c.refuse.ensures.told)
