-- Tables that were read, whichever has the first fault.
use Rattle.std.proofs.Common.{◌≡◌, ◌∙◌, List, ◌++◌, Option, None, Some, true, refl, sym, ap, map}
use Rattle.std.proofs.lemmas.Simd.{map-map}
use Rattle.std.specs.Prelude.{option_map, is_none, is_some, if◌then◌else◌}
use Rattle.pe_view.specs.Faults.{Test, first_standing}
use Rattle.pe_view.specs.FirstStanding.{first-past}
use Rattle.pe_view.specs.declared.fault.Fault.{Fault}
use Rattle.pe_layout.specs.Image.{LaidOut}
use Rattle.pe_tables.specs.ExportFaults.{export_tests}
use Rattle.pe_tables.specs.Exports.{exports_of}
use Rattle.pe_tables.specs.ExportsView.{exports_view}
use Rattle.pe_tables.specs.ImportFaults.{import_tests}
use Rattle.pe_tables.specs.Import.{slots_of}
use Rattle.pe_tables.specs.Imports as table
use Rattle.pe_tables.specs.Imports.{imports_of}
use Rattle.pe_tables.specs.declared.import.Import.{Import}
use Rattle.pe_tables.specs.ImportView.{import_view}
use Rattle.pe_tables.specs.Fixups.{fixups_of}
use Rattle.pe_image.specs.ImageOf.{unless, AreTablesOf}
use Rattle.pe_image.specs.ImageTests.{relocation_tests, table_tests}
use Rattle.pe_image.specs.declared.tables.Tables.{Tables}
use Rattle.pe_reach.specs.WholeTables.{AreWholeTablesOf}

-- what is there if no test holds
pub there : {X : Type 0} (tests : List Test) (x : X) → first_standing tests ≡ None → unless tests x ≡ Some x
there tests x none = rw none refl

-- what is not there if one holds
pub gone : {X : Type 0} (tests : List Test) (x : X) (fault : Fault) → first_standing tests ≡ Some fault → unless tests x ≡ None
gone tests x fault some = rw some refl

-- the slots of imports that were read are those of the image's imports
pub own_slots : (imports : List Import) (listed : List table.Import) → map import_view imports ≡ listed → slots_of imports ≡ map (λ m. m.slot) listed
own_slots imports listed e = sym (map-map (λ (m : table.Import). m.slot) import_view imports) ∙ ap (map (λ (m : table.Import). m.slot)) e

-- no test holds for what is there
none_of : {X Y : Type 0} (f : X → Y) (tests : List Test) (o : Option X) (y : Y) → is_some o ≡ true → option_map f o ≡ unless tests y → (first : Option Fault) → first_standing tests ≡ first → first ≡ None
none_of f tests None y some is first e = absurd cc
none_of f tests (Some x) y some is None e = refl
none_of f tests (Some x) y some is (Some fault) e = let no : Some (f x) ≡ None = is ∙ gone tests y fault e in absurd cc

-- a table behind others without a fault
behind : {X : Type 0} (front rest : List Test) (x : X) → first_standing front ≡ None → unless (front ++ rest) x ≡ unless rest x
behind front rest x none = ap (λ (o : Option Fault). if is_none o then Some x else None) (first-past front rest none)

-- tables up to the first fault, which is not one of the exports
pub of_first : {A : Type 0} (i : LaidOut) (t : Tables A) → is_some t.exports ≡ true → AreTablesOf i t → AreWholeTablesOf i t
unfolding table_tests
of_first i t some first =
    let none : first_standing (export_tests i) ≡ None = none_of exports_view (export_tests i) t.exports (exports_of i) some first.exports _ refl in record {
      exports = first.exports;
      imports = first.imports ∙ behind (export_tests i) (import_tests i) (imports_of i) none;
      fixups = first.fixups ∙ behind (export_tests i) (relocation_tests i) (fixups_of i) none;
      fault = first.fault;
    }
