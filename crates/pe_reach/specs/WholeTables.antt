-- The tables of an image that have no fault, whichever table has the first.
use Rattle.std.specs.Prelude.{◌≡◌, ◌⊎◌, map, option_map}
use Rattle.pe_view.specs.Faults.{first_standing}
use Rattle.pe_layout.specs.Image.{LaidOut}
use Rattle.pe_tables.specs.ExportFaults.{export_tests}
use Rattle.pe_tables.specs.Exports.{exports_of}
use Rattle.pe_tables.specs.ExportsView.{exports_view}
use Rattle.pe_tables.specs.ImportFaults.{import_tests}
use Rattle.pe_tables.specs.Imports.{imports_of}
use Rattle.pe_tables.specs.ImportView.{import_view}
use Rattle.pe_tables.specs.Fixups.{fixups_of}
use Rattle.pe_image.specs.ImageOf.{unless}
use Rattle.pe_image.specs.ImageTests.{relocation_tests, table_tests}
use Rattle.pe_image.specs.Wants.{FixupsTakeMemory, TablesTakeMemory}
use Rattle.pe_image.specs.declared.tables.Tables.{Tables}

-- each table is there exactly if it has no fault; base relocations, if imports have none either
pub record AreWholeTablesOf {A : Type 0} (i : LaidOut) (t : Tables A) : Type 0 where
  pub exports : option_map exports_view t.exports ≡ unless (export_tests i) (exports_of i)
  pub imports : option_map (λ imports. map import_view imports.items) t.imports ≡ unless (import_tests i) (imports_of i)
  pub fixups : option_map (λ fixups. fixups.items) t.fixups ≡ unless (relocation_tests i) (fixups_of i)
  pub fault : t.fault ≡ first_standing (table_tests i)

-- when reading them may run out of memory
abbrev pub TakeMemory : LaidOut → Type 0
TakeMemory i = TablesTakeMemory i ⊎ FixupsTakeMemory i
