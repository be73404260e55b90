-- All tables of an image of which some bytes are not at hand.
use Rattle.std.proofs.Common.{◌≡◌, ℕ, List, ◌++◌, Option, sym, ◌∙◌, ap, ap₂}
use Rattle.std.specs.Prelude.{map}
use Rattle.std.specs.Option.{option_or}
use Rattle.pe_view.specs.Faults.{first_standing}
use Rattle.pe_view.specs.FirstStanding.{first-append, none-append}
use Rattle.pe_layout.specs.Image.{LaidOut}
use Rattle.pe_tables.specs.Imports.{Import, imports_of}
use Rattle.pe_tables.specs.ExportFaults.{export_tests}
use Rattle.pe_tables.specs.ImportFaults.{import_tests}
use Rattle.pe_tables.specs.FixupFaults.{fixup_tests}
use Rattle.pe_image.specs.ImageTests.{table_tests}
use Rattle.pe_parts.specs.Filled.{filled, HaveTables, SameTables}
use Rattle.pe_parts.proofs.ReadFixups.{fixup_tests_agree, fixups_agree}
use Rattle.pe_parts.proofs.ReadExports.{export_tests_agree, exports_agree}
use Rattle.pe_parts.proofs.ReadImports.{import_tests_agree, imports_agree}

pub tables_agree : (i : LaidOut) (b : ℕ → ℕ) (t : ℕ → Option (List ℕ)) (w : ℕ → ℕ) → HaveTables i b t → SameTables i (filled i b t w)
unfolding table_tests
tables_agree i b t w h =
    let f = filled i b t w in
    let imports = imports_agree i b t w h.imports in
    let slots = λ (x : LaidOut). map (λ (m : Import). m.slot) (imports_of x) in
    let fixups : first_standing (fixup_tests f (slots f)) ≡ first_standing (fixup_tests i (slots i)) =
    ap (λ is. first_standing (fixup_tests f (map (λ (m : Import). m.slot) is))) imports ∙ fixup_tests_agree i b t w (slots i) h.fixups in
    record {
      faults = first-append (export_tests f) (import_tests f ++ fixup_tests f (slots f))
          ∙ ap₂ option_or (ap first_standing (export_tests_agree i b t w h.exports))
          (first-append (import_tests f) (fixup_tests f (slots f))
          ∙ ap₂ option_or (ap first_standing (import_tests_agree i b t w h.imports)) fixups
          ∙ sym (first-append (import_tests i) (fixup_tests i (slots i))))
          ∙ sym (first-append (export_tests i) (import_tests i ++ fixup_tests i (slots i)));
      exports = λ none. exports_agree i b t w h.exports (none-append (export_tests i) (import_tests i ++ fixup_tests i (slots i)) none).0;
      imports = imports;
      fixups = λ none. fixups_agree i b t w (slots i) h.fixups (none-append (import_tests i) (fixup_tests i (slots i)) (none-append (export_tests i) (import_tests i ++ fixup_tests i (slots i)) none).1).1;
    }
