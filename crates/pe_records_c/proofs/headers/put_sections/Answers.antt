use Rattle.pe_records_c.proofs.Rows.{rows_made}
use Rattle.pe_records_c.specs.HeaderRows.{section_row}
use Rattle.pe_records_c.proofs.headers.put_sections.Goals as goal

pub returns : goal.returns
returns c = rows_made section_row _ _ _ c.fill_rows.ensures
