-- A table after the first fault is not read.
use Rattle.std.proofs.Common.{◌≡◌, ◌∙◌, List, ℕ, ◌++◌, None, IsTrue, inl, inr, ap, sym, subst}
use Rattle.std.proofs.lemmas.Result.{on_err_weaker}
use Rattle.pe_view.specs.Faults.{first_standing, Refuses}
use Rattle.pe_view.specs.FirstStanding.{first-past, refused-in, refused-past}
use Rattle.pe_layout.specs.Layout.{image_of}
use Rattle.pe_tables.specs.ExportFaults.{export_tests}
use Rattle.pe_tables.specs.Exports.{exports_of}
use Rattle.pe_tables.specs.Fixups.{fixups_of}
use Rattle.pe_tables.specs.FixupFaults.{fixup_tests}
use Rattle.pe_tables.specs.Import.{slots_of}
use Rattle.pe_tables.specs.ImportFaults.{import_tests}
use Rattle.pe_tables.specs.Imports.{imports_of}
use Rattle.pe_tables.specs.TableFaults.{goes_past}
use Rattle.pe_image.specs.ImageTests.{relocation_tests, table_tests}
use Rattle.pe_image.proofs.Phases.{own_slots}
use Rattle.pe_image.proofs.Whole.{both_ok, there, told, absent}
use Rattle.pe_image.proofs.tables.read_tables.Goals as goal

pub returns-in-Err-clause-tables : goal.returns-in-Err-clause-tables
unfolding table_tests
returns-in-Err-clause-tables g c =
    let i = image_of c.args.layout.now in
    let error = c.in-Err.error in
    let refused = c.in-Err.ensures.exact in
    let before_imports = refused-in (export_tests i) (import_tests i) error refused in
    let before_all = refused-in (export_tests i) (relocation_tests i) error refused in
    both_ok _ _ _ c.tables_before.result (λ t kept fault. record {
      exports = rw kept.0 (sym (absent (export_tests i) (exports_of i) error t.fault fault refused));
      imports = rw kept.1 (sym (absent (export_tests i ++ import_tests i) (imports_of i) error t.fault fault before_imports));
      fixups = rw kept.2 (sym (absent (table_tests i) (fixups_of i) error t.fault fault before_all));
      fault = sym (told (table_tests i) error t.fault fault before_all);
    }) c.tables_before.ensures.kept c.tables_before.ensures.refused

pub returns-in-Err-read_imports-clause-tables : goal.returns-in-Err-read_imports-clause-tables
unfolding table_tests
returns-in-Err-read_imports-clause-tables g c =
    let i = image_of c.args.layout.now in
    let error = c.in-Err-read_imports.error in
    let exports = c.in-Ok.ensures.exact in
    let refused = c.in-Err-read_imports.ensures.exact in
    let before_imports = refused-past (export_tests i) (import_tests i) error exports.0 refused in
    let before_all = refused-past (export_tests i) (relocation_tests i) error exports.0 (refused-in (import_tests i) _ error refused) in
    both_ok _ _ _ c.tables_before-in-Err-read_imports.result (λ t kept fault. record {
      exports = rw (kept.0, exports.1) (sym (there (export_tests i) (exports_of i) exports.0));
      imports = rw kept.1 (sym (absent (export_tests i ++ import_tests i) (imports_of i) error t.fault fault before_imports));
      fixups = rw kept.2 (sym (absent (table_tests i) (fixups_of i) error t.fault fault before_all));
      fault = sym (told (table_tests i) error t.fault fault before_all);
    }) c.tables_before-in-Err-read_imports.ensures.kept c.tables_before-in-Err-read_imports.ensures.refused

pub returns-in-Err-read_fixups-clause-tables : goal.returns-in-Err-read_fixups-clause-tables
unfolding table_tests
returns-in-Err-read_fixups-clause-tables g c =
    let i = image_of c.args.layout.now in
    let error = c.in-Err-read_fixups.error in
    let exports = c.in-Ok.ensures.exact in
    let imports = c.in-Ok-read_imports.ensures.exact in
    let slots = ap slots_of c.deref.ensures.value ∙ own_slots c.in-Ok-read_imports.imports.items _ imports.1 in
    let refused = subst (λ (s : List ℕ). Refuses (fixup_tests i s) error) slots c.in-Err-read_fixups.ensures.exact in
    let no_import_fault = first-past (export_tests i) (import_tests i) exports.0 ∙ imports.0 in
    let before_all = refused-past (export_tests i) (relocation_tests i) error exports.0 (refused-past (import_tests i) _ error imports.0 refused) in
    both_ok _ _ _ c.tables_before-in-Err-read_fixups.result (λ t kept fault. record {
      exports = rw (kept.0, exports.1) (sym (there (export_tests i) (exports_of i) exports.0));
      imports = rw (kept.1, imports.1) (sym (there (export_tests i ++ import_tests i) (imports_of i) no_import_fault));
      fixups = rw kept.2 (sym (absent (table_tests i) (fixups_of i) error t.fault fault before_all));
      fault = sym (told (table_tests i) error t.fault fault before_all);
    }) c.tables_before-in-Err-read_fixups.ensures.kept c.tables_before-in-Err-read_fixups.ensures.refused

pub returns-in-Ok-read_fixups-clause-tables : goal.returns-in-Ok-read_fixups-clause-tables
unfolding table_tests
returns-in-Ok-read_fixups-clause-tables g c =
    let i = image_of c.args.layout.now in
    let exports = c.in-Ok.ensures.exact in
    let imports = c.in-Ok-read_imports.ensures.exact in
    let fixups = c.in-Ok-read_fixups.ensures.exact in
    let slots = ap slots_of c.deref.ensures.value ∙ own_slots c.in-Ok-read_imports.imports.items _ imports.1 in
    let no_fixup_fault = subst (λ (s : List ℕ). first_standing (fixup_tests i s) ≡ None) slots fixups.0 in
    let no_import_fault = first-past (export_tests i) (import_tests i) exports.0 ∙ imports.0 in
    let none = first-past (export_tests i) (relocation_tests i) exports.0 ∙ first-past (import_tests i) _ imports.0 ∙ no_fixup_fault in
    record {
      exports = rw exports.1 (sym (there (export_tests i) (exports_of i) exports.0));
      imports = rw imports.1 (sym (there (export_tests i ++ import_tests i) (imports_of i) no_import_fault));
      fixups = rw fixups.1 (sym (there (table_tests i) (fixups_of i) none));
      fault = sym none;
    }

pub returns-in-Err-clause-memory : goal.returns-in-Err-clause-memory
returns-in-Err-clause-memory g c =
    on_err_weaker c.tables_before.result (λ wants. inl (c.in-Err.ensures.memory (cc wants))) c.tables_before.ensures.memory

pub returns-in-Err-read_imports-clause-memory : goal.returns-in-Err-read_imports-clause-memory
returns-in-Err-read_imports-clause-memory g c =
    on_err_weaker c.tables_before-in-Err-read_imports.result (λ wants. inr (c.in-Ok.ensures.exact.0, inl (c.in-Err-read_imports.ensures.memory (cc wants)))) c.tables_before-in-Err-read_imports.ensures.memory

pub returns-in-Err-read_fixups-clause-memory : goal.returns-in-Err-read_fixups-clause-memory
returns-in-Err-read_fixups-clause-memory g c =
    let i = image_of c.args.layout.now in
    let imports = c.in-Ok-read_imports.ensures.exact in
    let slots = ap slots_of c.deref.ensures.value ∙ own_slots c.in-Ok-read_imports.imports.items _ imports.1 in
    on_err_weaker c.tables_before-in-Err-read_fixups.result
    (λ wants. inr (c.in-Ok.ensures.exact.0, inr (imports.0, subst (λ (s : List ℕ). IsTrue (goes_past 33 (fixup_tests i s))) slots (c.in-Err-read_fixups.ensures.memory (cc wants)))))
    c.tables_before-in-Err-read_fixups.ensures.memory
