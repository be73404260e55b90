-- All faults of the file of an image.
use Rattle.std.specs.Prelude.{ℕ, List, ◌++◌, map}
use Rattle.pe_view.specs.Faults.{Test}
use Rattle.pe_layout.specs.Image.{LaidOut, image_of_file}
use Rattle.pe_layout.specs.SectionFaults.{layout_tests}
use Rattle.pe_tables.specs.ExportFaults.{export_tests}
use Rattle.pe_tables.specs.Imports.{imports_of}
use Rattle.pe_tables.specs.ImportFaults.{import_tests}
use Rattle.pe_tables.specs.FixupFaults.{fixup_tests}

-- the slots of an image's imports
abbrev pub import_slots : LaidOut → List ℕ
import_slots i = map (λ m. m.slot) (imports_of i)

-- base relocations are tested after the imports, with whose slots they are compared
abbrev pub relocation_tests : LaidOut → List Test
relocation_tests i = import_tests i ++ fixup_tests i (import_slots i)

-- the tests of an image's tables, phase by phase
unfoldable pub table_tests : LaidOut → List Test
table_tests i = export_tests i ++ relocation_tests i

-- the tests of the file of an image with a number, in the order of its faults
unfoldable pub image_tests : ℕ → List ℕ → List Test
image_tests number file = layout_tests number file ++ table_tests (image_of_file number file)
