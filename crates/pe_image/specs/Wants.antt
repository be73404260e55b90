-- When reading tables may run out of memory: if the file passes the tests that come before the first allocation.
use Rattle.std.specs.Prelude.{◌≡◌, ◌⊎◌, IsTrue, None}
use Rattle.pe_view.specs.Faults.{first_standing}
use Rattle.pe_layout.specs.Image.{LaidOut}
use Rattle.pe_tables.specs.ExportFaults.{export_tests, HasRows}
use Rattle.pe_tables.specs.FixupFaults.{fixup_tests}
use Rattle.pe_tables.specs.ImportFaults.{import_tests}
use Rattle.pe_tables.specs.TableFaults.{goes_past}
use Rattle.pe_image.specs.ImageTests.{import_slots}

-- exports: the table has a name or an entry, and none of faults 16 to 18
abbrev pub ExportsTakeMemory : LaidOut → Type 0
ExportsTakeMemory i = HasRows i (i.directory 0)

-- imports: a lookup entry is an import without a fault, and there is no earlier fault
abbrev pub ImportsTakeMemory : LaidOut → Type 0
ImportsTakeMemory i = IsTrue (goes_past 31 (import_tests i))

-- base relocations: the imports do; or these have no fault, nor has the table's place (34) or the size of its first block (33)
abbrev pub FixupsTakeMemory : LaidOut → Type 0
FixupsTakeMemory i = ImportsTakeMemory i ⊎ ((first_standing (import_tests i) ≡ None) × IsTrue (goes_past 33 (fixup_tests i (import_slots i))))

-- all tables: the exports do; or these have no fault, and imports or base relocations do
abbrev pub TablesTakeMemory : LaidOut → Type 0
TablesTakeMemory i = ExportsTakeMemory i ⊎ ((first_standing (export_tests i) ≡ None) × FixupsTakeMemory i)
