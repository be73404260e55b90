use Rattle.pe_records_c.proofs.Rows.{rows_made}
use Rattle.pe_records_c.specs.HeaderRows.{directory_row}
use Rattle.pe_records_c.proofs.headers.directory_rows.Goals as goal

pub returns : goal.returns
returns c = rows_made directory_row _ _ _ c.fill_rows.ensures
