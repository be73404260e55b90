-- The delay-loaded imports of an image as they are collected. No contract of a public function cites it.
use Rattle.std.specs.Prelude.{List, map, Vec}
use Rattle.pe_tables.specs.ImportView.{import_view}
use Rattle.pe_tables.specs.Imports as table
use Rattle.pe_tables.specs.declared.import.Import.{Import}

abbrev pub imports_view : {A : Type 0} → Vec Import A → List table.Import
imports_view imports = map import_view imports.items
