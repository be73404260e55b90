-- What is told of the image holds for that of the file.
use Rattle.std.proofs.Common.{◌∙◌, ap, subst}
use Rattle.std.specs.Prelude.{List}
use Rattle.pe_view.specs.declared.refusal.Refusal.TheVariants as refusals
use Rattle.pe_head.specs.Head.{head_of}
use Rattle.pe_head.specs.declared.headers.Headers.{Headers}
use Rattle.pe_layout.specs.Layout.{image_of}
use Rattle.pe_records_c.specs.Rows.{TellsTable}
use Rattle.pe_records_c.proofs.Telling.{table_accepted, table_refused}
use Rattle.c_tables.specs.FunctionRows.{function_rows}
use Rattle.c_tables.specs.declared.function.FunctionRow.{FunctionRow}
use Rattle.petool_c.proofs.function.petool_functions.Goals as goal

pub returns-in-Ok : goal.returns-in-Ok
returns-in-Ok c =
    let laid = c.in-Ok.ensures in
    let rows = ap (λ (h : Headers). function_rows h.machine (image_of c.in-Ok.layout)) laid.1.headers ∙ ap (function_rows (head_of c.args.file.now).machine) laid.1.shows in
    table_accepted _ _ (λ r. r) (λ r. r) _ _ _ _ _ _ _ laid.0
    (subst (λ (table : List FunctionRow). TellsTable (λ r. r) (λ r. r) table c.args.rows.now c.tell_functions.new.rows c.tell_functions.new.count c.tell_functions.result) rows c.tell_functions.ensures)

pub returns-in-Err : goal.returns-in-Err
returns-in-Err c =
    table_refused _ _ _ _ _ _ _ _ _ _ (refusals.Fault c.in-Err.first) c.in-Err.ensures (λ e. absurd cc e) (c.refuse.ensures.status, c.refuse.ensures.told)
