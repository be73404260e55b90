-- The rows are those of the file's bound import table.
use Rattle.std.proofs.Common.{◌∙◌, ap}
use Rattle.std.proofs.lemmas.List.{map-id}
use Rattle.pe_view.specs.declared.refusal.Refusal.TheVariants as refusals
use Rattle.pe_records.specs.BoundImports.{bound_imports_in}
use Rattle.pe_records_c.proofs.Telling.{table_read, table_refused}
use Rattle.c_tables.specs.BoundImportRows.{bound_imports, bound_import_row}
use Rattle.petool_c.proofs.bound_import.petool_bound_imports.Goals as goal

pub returns-in-Ok : goal.returns-in-Ok
returns-in-Ok c =
    let laid = c.in-Ok.ensures in
    let told = c.put_items.ensures in
    let records = ap bound_imports_in c.of.ensures.bytes ∙ ap bound_imports laid.1.shows in
    table_read _ _ (λ r. r) (λ x. x) bound_import_row _ _ _ _ _ _ _ _ laid.0 (map-id _ ∙ records) told.rows told.count told.status

pub returns-in-Err : goal.returns-in-Err
returns-in-Err c =
    table_refused _ _ _ _ _ _ _ _ _ _ (refusals.Fault c.in-Err.first) c.in-Err.ensures (λ e. absurd cc e) (c.refuse.ensures.status, c.refuse.ensures.told)
