-- The callbacks are those of the image.
use Rattle.std.proofs.Common.{◌∙◌, ap}
use Rattle.std.proofs.lemmas.List.{map-id}
use Rattle.pe_records_c.proofs.Rows.{table_told}
use Rattle.c_tables.specs.TlsRows.{addresses_in, callback_row}
use Rattle.c_tables.proofs.tls.tell_callbacks.Goals as goal

pub returns-in-Some : goal.returns-in-Some
returns-in-Some c =
    let told = c.put_items.ensures in
    table_told (λ r. r) (λ x. x) callback_row _ _ _ _ _ _ (map-id _ ∙ ap addresses_in c.in-Some.ensures) told.rows told.count told.status
