use Rattle.pe_tables.specs.ImportView.{import_view}
use Rattle.pe_records_c.specs.ImportRows.{import_text, import_row}
use Rattle.pe_records_c.proofs.Rows.{table_told}
use Rattle.pe_records_c.proofs.opened.tell_imports.Goals as goal

pub returns-clause-table : goal.returns-clause-table
returns-clause-table c = table_told import_text import_view import_row _ _ _ _ _ _ c.imports.ensures c.put_table.ensures.rows c.put_table.ensures.count c.put_table.ensures.status
