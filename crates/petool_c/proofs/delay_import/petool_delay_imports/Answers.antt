-- The rows are those of the image's table.
use Rattle.std.proofs.Common.{◌≢◌, ◌∙◌, [], ap, refl, subst}
use Rattle.std.specs.Prelude.{map}
use Rattle.pe_delay.specs.Imports.{delay_imports_of}
use Rattle.pe_layout.specs.Image.{LaidOut}
use Rattle.pe_tables.specs.ImportView.{import_view}
use Rattle.pe_view.specs.declared.refusal.Refusal.TheVariants as refusals
use Rattle.pe_records_c.specs.ImportRows.{import_text, import_row}
use Rattle.pe_records_c.proofs.Telling.{table_read, table_refused}
use Rattle.petool_c.proofs.delay_import.petool_delay_imports.Goals as goal

pub returns-in-Ok-read_delay_imports : goal.returns-in-Ok-read_delay_imports
returns-in-Ok-read_delay_imports c =
    let laid = c.in-Ok.ensures in
    let told = c.put_table.ensures in
    let imports = ap (map import_view) c.as_slice.ensures.value ∙ c.in-Ok-read_delay_imports.ensures.exact ∙ ap delay_imports_of laid.1.shows in
    table_read _ _ import_text import_view import_row _ _ _ _ _ _ _ _ laid.0 imports told.rows told.count told.status

pub returns-in-Err-read_delay_imports : goal.returns-in-Err-read_delay_imports
returns-in-Err-read_delay_imports c =
    let laid = c.in-Ok.ensures in
    let some = subst (λ (i : LaidOut). delay_imports_of i ≢ []) laid.1.shows c.in-Err-read_delay_imports.ensures.memory in
    table_refused _ _ _ _ _ _ _ _ _ _ refusals.Memory tt (λ _. (laid.0, some)) (refl, refl)

pub returns-in-Err : goal.returns-in-Err
returns-in-Err c =
    table_refused _ _ _ _ _ _ _ _ _ _ (refusals.Fault c.in-Err.first) c.in-Err.ensures (λ e. absurd cc e) (c.refuse.ensures.status, c.refuse.ensures.told)
