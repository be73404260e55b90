use Rattle.pe_tables.specs.ExportsView.{ordinal_view}
use Rattle.pe_records_c.specs.ExportRows.{export_text, export_by_ordinal}
use Rattle.pe_records_c.proofs.Rows.{table_told}
use Rattle.pe_records_c.proofs.opened.tell_exports.Goals as goal

pub returns-clause-table : goal.returns-clause-table
returns-clause-table c = table_told export_text ordinal_view export_by_ordinal _ _ _ _ _ _ c.ordinals.ensures c.put_table.ensures.rows c.put_table.ensures.count c.put_table.ensures.status
