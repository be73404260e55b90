-- Imports and base relocations are there exactly if they have no fault.
use Rattle.std.proofs.Common.{◌≡◌, ◌∙◌, List, ℕ, None, Some, IsTrue, inr, ap, map, sym, subst}
use Rattle.pe_view.specs.Faults.{first_standing, Refuses}
use Rattle.pe_view.specs.FirstStanding.{first-in, first-past}
use Rattle.pe_view.specs.declared.refusal.Refusal.{Refusal}
use Rattle.pe_layout.specs.Layout.{image_of}
use Rattle.pe_tables.specs.Fixups.{fixups_of}
use Rattle.pe_tables.specs.FixupFaults.{fixup_tests}
use Rattle.pe_tables.specs.Import.{slots_of}
use Rattle.pe_tables.specs.ImportFaults.{import_tests}
use Rattle.pe_tables.specs.Imports.{imports_of}
use Rattle.pe_tables.specs.TableFaults.{goes_past}
use Rattle.pe_image.specs.ImageTests.{relocation_tests}
use Rattle.pe_reach.proofs.WholeTables.{there, gone, own_slots}
use Rattle.pe_reach.proofs.whole_tables.read_behind.Goals as goal

pub returns-in-Err-Fault-clause-fixups : goal.returns-in-Err-Fault-clause-fixups
returns-in-Err-Fault-clause-fixups g c =
    let i = image_of c.args.layout.now in
    let fault = c.in-Err-Fault.field-0-0 in
    let refused : first_standing (import_tests i) ≡ Some fault = subst (λ (e : Refusal). Refuses (import_tests i) e) c.in-Err-Fault.field-0-is c.in-Err-Fault.ensures.exact in
    rw c.tables_behind.ensures.fixups (sym (gone (relocation_tests i) (fixups_of i) fault (first-in (import_tests i) _ fault refused)))

pub returns-in-Ok-read_fixups-clause-fixups : goal.returns-in-Ok-read_fixups-clause-fixups
returns-in-Ok-read_fixups-clause-fixups g c =
    let i = image_of c.args.layout.now in
    let imports = c.in-Ok.ensures.exact in
    let fixups = c.in-Ok-read_fixups.ensures.exact in
    let slots = ap slots_of c.deref.ensures.value ∙ own_slots c.in-Ok.imports.items _ imports.1 in
    let none = subst (λ (s : List ℕ). first_standing (fixup_tests i s) ≡ None) slots fixups.0 in
    rw (c.tables_behind-in-Ok-read_fixups.ensures.fixups, fixups.1) (sym (there (relocation_tests i) (fixups_of i) (first-past (import_tests i) _ imports.0 ∙ none)))

pub returns-in-Err-Fault-read_fixups-clause-fixups : goal.returns-in-Err-Fault-read_fixups-clause-fixups
returns-in-Err-Fault-read_fixups-clause-fixups g c =
    let i = image_of c.args.layout.now in
    let fault = c.in-Err-Fault-read_fixups.field-0-0 in
    let imports = c.in-Ok.ensures.exact in
    let slots = ap slots_of c.deref.ensures.value ∙ own_slots c.in-Ok.imports.items _ imports.1 in
    let refused = subst (λ (s : List ℕ). Refuses (fixup_tests i s) c.in-Err-Fault-read_fixups.field-0) slots c.in-Err-Fault-read_fixups.ensures.exact in
    let own = map (λ m. m.slot) (imports_of i) in
    let some : first_standing (fixup_tests i own) ≡ Some fault = subst (λ (e : Refusal). Refuses (fixup_tests i own) e) c.in-Err-Fault-read_fixups.field-0-is refused in
    rw c.tables_behind-in-Err-Fault-read_fixups.ensures.fixups (sym (gone (relocation_tests i) (fixups_of i) fault (first-past (import_tests i) _ imports.0 ∙ some)))

pub returns-clause-memory : goal.returns-clause-memory
returns-clause-memory g c =
    let i = image_of c.args.layout.now in
    let imports = c.in-Ok.ensures.exact in
    let slots = ap slots_of c.deref.ensures.value ∙ own_slots c.in-Ok.imports.items _ imports.1 in
    inr (imports.0, subst (λ (s : List ℕ). IsTrue (goes_past 33 (fixup_tests i s))) slots (c.in-Err-Memory-read_fixups.ensures.memory (cc c.in-Err-Memory-read_fixups.field-0-is)))
