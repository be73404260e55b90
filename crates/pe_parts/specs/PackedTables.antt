-- The contents of an image's tables that were read.
use Rattle.std.specs.Prelude.{◌≡◌, map, None}
use Rattle.pe_view.specs.Faults.{first_standing}
use Rattle.pe_layout.specs.Image.{LaidOut}
use Rattle.pe_tables.specs.Exports.{exports_of}
use Rattle.pe_tables.specs.ExportsView.{exports_view}
use Rattle.pe_tables.specs.Imports.{imports_of}
use Rattle.pe_tables.specs.ImportView.{import_view}
use Rattle.pe_tables.specs.Fixups.{fixups_of}
use Rattle.pe_image.specs.ImageTests.{table_tests}
use Rattle.pe_parts.specs.declared.tables.PackedTables.{PackedTables}

-- they are the contents of the tables of an image, which has none of faults 16 to 38
pub record AreContentsOf {A : Type 0} (i : LaidOut) (t : PackedTables A) : Type 0 where
  pub sound : first_standing (table_tests i) ≡ None
  pub exports : exports_view t.exports ≡ exports_of i
  pub imports : map import_view t.imports.items ≡ imports_of i
  pub fixups : t.fixups.items ≡ fixups_of i
