-- What is told of the image holds for that of the file.
use Rattle.std.proofs.Common.{subst}
use Rattle.pe_view.specs.declared.refusal.Refusal.TheVariants as refusals
use Rattle.pe_layout.specs.Image.{LaidOut}
use Rattle.pe_records_c.specs.Rows.{TellsTable}
use Rattle.pe_records_c.proofs.Telling.{table_accepted, table_refused}
use Rattle.c_tables.specs.TlsRows.{callbacks_in, callback_row}
use Rattle.petool_c.proofs.tls.petool_tls_callbacks.Goals as goal

pub returns-in-Ok : goal.returns-in-Ok
returns-in-Ok c =
    let laid = c.in-Ok.ensures in
    table_accepted _ _ (λ r. r) callback_row _ _ _ _ _ _ _ laid.0
    (subst (λ (i : LaidOut). TellsTable (λ r. r) callback_row (callbacks_in i) c.args.rows.now c.tell_callbacks.new.rows c.tell_callbacks.new.count c.tell_callbacks.result) laid.1.shows c.tell_callbacks.ensures)

pub returns-in-Err : goal.returns-in-Err
returns-in-Err c =
    table_refused _ _ _ _ _ _ _ _ _ _ (refusals.Fault c.in-Err.first) c.in-Err.ensures (λ e. absurd cc e) (c.refuse.ensures.status, c.refuse.ensures.told)
