-- The rows are those of the file's debug directory.
use Rattle.std.proofs.Common.{◌∙◌, ap}
use Rattle.std.proofs.lemmas.List.{map-id}
use Rattle.pe_view.specs.declared.refusal.Refusal.TheVariants as refusals
use Rattle.pe_records.specs.Debug.{debug_entry_at}
use Rattle.pe_records.specs.Records.{records_in}
use Rattle.pe_records_c.proofs.Telling.{table_read, table_refused}
use Rattle.c_tables.specs.DebugRows.{debug_entries, debug_row}
use Rattle.petool_c.proofs.debug.petool_debug.Goals as goal

pub returns : goal.returns
returns c =
    let laid = c.in-Ok.ensures in
    let told = c.put_items.ensures in
    let entries = ap (records_in debug_entry_at 28) c.of-entries.ensures.bytes ∙ ap debug_entries laid.1.shows in
    table_read _ _ (λ r. r) (λ x. x) debug_row _ _ _ _ _ _ _ _ laid.0 (map-id _ ∙ entries) told.rows told.count told.status

pub returns-in-Err : goal.returns-in-Err
returns-in-Err c =
    table_refused _ _ _ _ _ _ _ _ _ _ (refusals.Fault c.in-Err.first) c.in-Err.ensures (λ e. absurd cc e) (c.refuse.ensures.status, c.refuse.ensures.told)
