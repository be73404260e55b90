-- The fields are those of the image's structure.
use Rattle.std.proofs.Common.{◌∙◌}
use Rattle.std.proofs.lemmas.List.{map-id}
use Rattle.pe_records.specs.ClrHeader.{clr_fields}
use Rattle.pe_records_c.proofs.Rows.{table_told}
use Rattle.c_tables.specs.FieldRows.{field_row}
use Rattle.c_tables.proofs.Fields.{fields_held}
use Rattle.c_tables.proofs.field.tell_clr.Goals as goal

pub returns-in-Some : goal.returns-in-Some
returns-in-Some c =
    let told = c.put_items.ensures in
    table_told (λ r. r) (λ x. x) field_row _ _ _ _ _ _ (map-id _ ∙ fields_held clr_fields _ _ _ _ c.in-Some.ensures.bytes c.in-Some.ensures.width) told.rows told.count told.status
