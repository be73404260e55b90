use Rattle.pe_records_c.proofs.Rows.{rows_made}
use Rattle.pe_records_c.specs.ObjectHeaderRows.{section_header_row}
use Rattle.c_tables.proofs.header.put_section_headers.Goals as goal

pub returns : goal.returns
returns c = rows_made section_header_row _ _ _ c.fill_headers.ensures
