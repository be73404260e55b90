-- The rows are those of the image's table.
use Rattle.std.proofs.Common.{ap, Err, ◌∙◌}
use Rattle.pe_tables.specs.ExportsView.{ordinal_view}
use Rattle.pe_records_c.specs.ExportRows.{export_text, export_by_ordinal}
use Rattle.pe_records_c.proofs.Telling.{table_read, table_refused}
use Rattle.petool_c.proofs.export.petool_exports.Goals as goal

pub returns-in-Ok : goal.returns-in-Ok
returns-in-Ok c =
    let told = c.put_table.ensures in
    table_read _ _ export_text ordinal_view export_by_ordinal _ _ _ _ _ _ _ _ c.in-Ok.ensures.exact.0 (c.ordinals.ensures ∙ ap (λ e. e.ordinals) c.in-Ok.ensures.exact.1) told.rows told.count told.status

pub returns-in-Err : goal.returns-in-Err
returns-in-Err c = table_refused _ _ _ _ _ _ _ _ _ _ c.in-Err.refusal c.in-Err.ensures.exact (λ e. c.in-Err.ensures.memory (ap Err e)) c.refuse_for.ensures
