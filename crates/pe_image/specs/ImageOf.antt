-- The image of a file, with the contents of its tables.
use Rattle.std.specs.Prelude.{◌≡◌, ℕ, List, ◌++◌, map, is_none, if◌then◌else◌, Option, None, Some, option_map}
use Rattle.pe_view.specs.Faults.{Test, first_standing}
use Rattle.pe_layout.specs.Image.{LaidOut}
use Rattle.pe_layout.specs.Image.{image_of_file}
use Rattle.pe_layout.specs.Layout.{image_of, IsLayoutOf}
use Rattle.pe_layout.specs.declared.layout.Layout.{Layout}
use Rattle.pe_tables.specs.ExportFaults.{export_tests}
use Rattle.pe_tables.specs.Exports.{exports_of}
use Rattle.pe_tables.specs.ExportsView.{exports_view}
use Rattle.pe_tables.specs.ImportFaults.{import_tests}
use Rattle.pe_tables.specs.Imports.{imports_of}
use Rattle.pe_tables.specs.ImportView.{import_view}
use Rattle.pe_tables.specs.Fixups.{fixups_of}
use Rattle.pe_image.specs.ImageTests.{table_tests}
use Rattle.pe_image.specs.declared.image.Image.{Image}
use Rattle.pe_image.specs.declared.tables.Tables.{Tables}

-- a value that is there exactly if no test holds
abbrev pub unless : {X : Type 0} → List Test → X → Option X
unless tests x = if is_none (first_standing tests) then Some x else None

-- the tables of an image that were read: each is there exactly if it and those before it have no fault
pub record AreTablesOf {A : Type 0} (i : LaidOut) (t : Tables A) : Type 0 where
  pub exports : option_map exports_view t.exports ≡ unless (export_tests i) (exports_of i)
  pub imports : option_map (λ imports. map import_view imports.items) t.imports ≡ unless (export_tests i ++ import_tests i) (imports_of i)
  pub fixups : option_map (λ fixups. fixups.items) t.fixups ≡ unless (table_tests i) (fixups_of i)
  pub fault : t.fault ≡ first_standing (table_tests i)

-- the contents of the tables of a layout's image
pub record HoldsTablesOf {A : Type 0} (l : Layout) (i : Image A) : Type 0 where
  pub layout : i.layout ≡ l
  pub exports : exports_view i.exports ≡ exports_of (image_of l)
  pub imports : map import_view i.imports.items ≡ imports_of (image_of l)
  pub fixups : i.fixups.items ≡ fixups_of (image_of l)

-- the image of a file, with a number
pub record IsImageOf {A : Type 0} (number : ℕ) (file : List ℕ) (i : Image A) : Type 0 where
  pub layout : IsLayoutOf file number i.layout
  pub exports : exports_view i.exports ≡ exports_of (image_of_file number file)
  pub imports : map import_view i.imports.items ≡ imports_of (image_of_file number file)
  pub fixups : i.fixups.items ≡ fixups_of (image_of_file number file)
