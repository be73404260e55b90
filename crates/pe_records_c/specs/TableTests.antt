-- The tests of a file of which one table is read: those of its headers and sections, and then those of the table.
use Rattle.std.specs.Prelude.{ℕ, List, ◌++◌}
use Rattle.pe_view.specs.Faults.{Test}
use Rattle.pe_layout.specs.Image.{image_of_file}
use Rattle.pe_layout.specs.SectionFaults.{layout_tests}
use Rattle.pe_tables.specs.ExportFaults.{export_tests}
use Rattle.pe_tables.specs.ImportFaults.{import_tests}
use Rattle.pe_image.specs.ImageTests.{relocation_tests}

unfoldable pub file_export_tests : List ℕ → List Test
file_export_tests file = layout_tests 0 file ++ export_tests (image_of_file 0 file)

unfoldable pub file_import_tests : List ℕ → List Test
file_import_tests file = layout_tests 0 file ++ import_tests (image_of_file 0 file)

unfoldable pub file_relocation_tests : List ℕ → List Test
file_relocation_tests file = layout_tests 0 file ++ relocation_tests (image_of_file 0 file)
