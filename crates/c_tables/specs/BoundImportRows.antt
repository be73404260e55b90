-- The bound import table as C has it.
use Rattle.std.specs.Prelude.{List}
use Rattle.pe_layout.specs.Image.{LaidOut}
use Rattle.pe_records.specs.BoundImports.{bound_imports_in}
use Rattle.pe_records.specs.Records.{table_bytes}
use Rattle.pe_records.specs.declared.bound_imports.BoundImport.{BoundImport}
use Rattle.c_tables.specs.declared.bound_import.BoundImportRow.{BoundImportRow}

abbrev pub bound_imports : LaidOut → List BoundImport
bound_imports i = bound_imports_in (table_bytes i (i.directory 11))

abbrev pub bound_import_row : BoundImport → BoundImportRow
bound_import_row b = record {
  time_date_stamp = b.time_date_stamp;
  offset_module_name = b.offset_module_name;
  number_of_module_forwarder_refs = b.number_of_module_forwarder_refs;
}
