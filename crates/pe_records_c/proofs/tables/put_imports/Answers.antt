use Rattle.pe_tables.specs.ImportView.{import_view}
use Rattle.pe_records_c.specs.ImportRows.{import_text, import_row}
use Rattle.pe_records_c.proofs.Rows.{rows_filled}
use Rattle.pe_records_c.proofs.tables.put_imports.Goals as goal

pub returns : goal.returns
returns c = rows_filled import_text import_view import_row _ _ _ c.fill_rows.ensures
