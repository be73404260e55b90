-- The rows are those of the image's table.
use Rattle.std.proofs.Common.{ap, Err, ◌∙◌}
use Rattle.std.specs.Prelude.{map}
use Rattle.pe_tables.specs.ImportView.{import_view}
use Rattle.pe_records_c.specs.ImportRows.{import_text, import_row}
use Rattle.pe_records_c.proofs.Telling.{table_read, table_refused}
use Rattle.petool_c.proofs.import.petool_imports.Goals as goal

pub returns-in-Ok : goal.returns-in-Ok
returns-in-Ok c =
    let told = c.put_table.ensures in
    table_read _ _ import_text import_view import_row _ _ _ _ _ _ _ _ c.in-Ok.ensures.exact.0 (ap (map import_view) c.as_slice.ensures.value ∙ c.in-Ok.ensures.exact.1) told.rows told.count told.status

pub returns-in-Err : goal.returns-in-Err
returns-in-Err c = table_refused _ _ _ _ _ _ _ _ _ _ c.in-Err.refusal c.in-Err.ensures.exact (λ e. c.in-Err.ensures.memory (ap Err e)) c.refuse_for.ensures
