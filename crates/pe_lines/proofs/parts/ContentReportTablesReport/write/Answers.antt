use Rattle.std.proofs.Common.{map}
use Rattle.pe_tables.specs.ExportsView.{exports_view}
use Rattle.pe_tables.specs.ImportView.{import_view}
use Rattle.pe_lines.specs.Dump.{dump_text}
use Rattle.pe_lines.proofs.ByTables.{dump_by_tables}
use Rattle.pe_lines.proofs.parts.ContentReportTablesReport.write.Goals as goal

pub returns-clause-adds : goal.returns-clause-adds
returns-clause-adds g c =
    let h = c.args.headers.now in
    let tables = c.args.tables.now in (
      dump_text h (exports_view tables.exports) (map import_view tables.imports.items) tables.fixups.items,
      dump_by_tables h tables,
      rw (c.deref.ensures.value, c.deref-2.ensures.value) at c.write_dump.ensures,
    )
