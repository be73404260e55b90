use Rattle.pe_records_c.specs.FixupRows.{fixup_row}
use Rattle.pe_records_c.proofs.Rows.{rows_made}
use Rattle.pe_records_c.proofs.tables.put_fixups.Goals as goal

pub returns : goal.returns
returns c = rows_made fixup_row _ _ _ c.fill_rows.ensures
