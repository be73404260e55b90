-- The phases in which the faults of an image are tested.
use Rattle.std.proofs.Common.{◌≡◌, ℕ, ◌<◌, ◌≤◌, List, ◌++◌, length, map, sym, ap, None, Result, Ok, Err, refl, ◌∙◌, arith}
use Rattle.std.proofs.lemmas.Bool.{ltb-false}
use Rattle.std.proofs.lemmas.Simd.{map-map}
use Rattle.pe_view.specs.Faults.{Test, first_standing, AnswersOrWants}
use Rattle.pe_view.specs.FirstStanding.{first-past, refused-past, none-append, none_stands}
use Rattle.pe_head.specs.Head.{head_of}
use Rattle.pe_head.specs.HeaderFaults.{head_tests}
use Rattle.pe_layout.specs.Layout.{IsLayoutOf}
use Rattle.pe_layout.specs.SectionFaults.{layout_tests, placing_tests}
use Rattle.pe_layout.specs.declared.layout.Layout.{Layout}
use Rattle.pe_tables.specs.Exports.{exports_of}
use Rattle.pe_tables.specs.Fixups.{fixups_of}
use Rattle.pe_tables.specs.Import.{slots_of}
use Rattle.pe_tables.specs.Imports as table
use Rattle.pe_tables.specs.ImportView.{import_view}
use Rattle.pe_tables.specs.declared.import.Import.{Import}
use Rattle.pe_view.specs.declared.refusal.Refusal.{Refusal}
use Rattle.pe_image.specs.declared.image.Image.{Image}
use Rattle.pe_image.specs.ImageOf.{HoldsTablesOf, IsImageOf}

-- phases after others without a fault
pub behind : {X : Type 0} (front rest : List Test) (P Q : X → Type 0) (result : Result X Refusal) → first_standing front ≡ None → ((x : X) → P x → Q x)
    → AnswersOrWants rest P result → AnswersOrWants (front ++ rest) Q result
behind front rest P Q (Ok x) none more answers = (first-past front rest none ∙ answers.0, more x answers.1)
behind front rest P Q (Err error) none more answers = refused-past front rest error none answers

-- a file without faults 1 to 15 is not empty
pub has_bytes : (number : ℕ) (file : List ℕ) → first_standing (layout_tests number file) ≡ None → 0 < length file
unfolding head_tests
has_bytes number file none =
    let head = (none-append (head_tests number file) (placing_tests number (head_of file) (length file)) none).0 in
    let enough : 64 ≤ length file = ltb-false _ _ (none_stands (head_tests number file) 1 _ head refl) in
    omega (arith, enough)

-- the slots of imports that were read are those of the image's imports
pub own_slots : (imports : List Import) (listed : List table.Import) → map import_view imports ≡ listed → slots_of imports ≡ map (λ m. m.slot) listed
own_slots imports listed e = sym (map-map (λ (m : table.Import). m.slot) import_view imports) ∙ ap (map (λ (m : table.Import). m.slot)) e

-- the tables of a file's layout that were read are those of the file
pub tables_of_file : {A : Type 0} (number : ℕ) (file : List ℕ) (l : Layout) (i : Image A) → IsLayoutOf file number l → HoldsTablesOf l i → IsImageOf number file i
tables_of_file number file l i laid tables =
    let is = laid.shows in record {
      layout = rw tables.layout laid;
      exports = tables.exports ∙ ap exports_of is;
      imports = tables.imports ∙ ap table.imports_of is;
      fixups = tables.fixups ∙ ap fixups_of is;
    }
