use Rattle.pe_lines.specs.Format.{accepted_line}
use Rattle.pe_lines.proofs.ByTables.{accepted_by_tables}
use Rattle.pe_lines.proofs.parts.AcceptedReportTablesReport.write.Goals as goal

pub returns-clause-adds : goal.returns-clause-adds
returns-clause-adds g c = (accepted_line c.args.headers.now, accepted_by_tables c.args.headers.now c.args._tables.now, c.write_accepted_line.ensures)
