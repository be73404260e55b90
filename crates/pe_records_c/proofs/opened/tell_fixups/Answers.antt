use Rattle.std.proofs.Common.{◌∙◌}
use Rattle.std.proofs.lemmas.List.{map-id}
use Rattle.pe_records_c.specs.FixupRows.{fixup_row}
use Rattle.pe_records_c.proofs.Rows.{table_told}
use Rattle.pe_records_c.proofs.opened.tell_fixups.Goals as goal

pub returns-clause-table : goal.returns-clause-table
returns-clause-table c = table_told (λ row. row) (λ fixup. fixup) fixup_row _ _ _ _ _ _ (map-id _ ∙ c.fixups.ensures) c.put_table.ensures.rows c.put_table.ensures.count c.put_table.ensures.status
