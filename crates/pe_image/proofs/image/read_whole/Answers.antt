-- Each phase comes after phases without a fault.
use Rattle.std.proofs.Common.{◌∙◌, ◌≡◌, None, List, ℕ, ap, subst, refl}
use Rattle.std.proofs.lemmas.Result.{err_from_is_err_and}
use Rattle.pe_view.specs.Faults.{first_standing, Refuses}
use Rattle.pe_view.specs.FirstStanding.{first-past, refused-in, refused-past}
use Rattle.pe_layout.specs.Layout.{image_of}
use Rattle.pe_tables.specs.ExportFaults.{export_tests}
use Rattle.pe_tables.specs.Import.{slots_of}
use Rattle.pe_tables.specs.ImportFaults.{import_tests}
use Rattle.pe_tables.specs.FixupFaults.{fixup_tests}
use Rattle.pe_image.specs.ImageTests.{table_tests}
use Rattle.pe_image.proofs.Phases.{own_slots}
use Rattle.pe_image.proofs.image.read_whole.Goals as goal

pub returns-in_err-exports : goal.returns-in_err-exports
unfolding table_tests
returns-in_err-exports g c =
    let i = image_of c.args.layout in
    let p = err_from_is_err_and c.from_residual.result c.from_residual.ensures.1 in
    rw (p.1, p.2) (refused-in (export_tests i) _ c.in_err-exports.field-0.0 c.in_err-exports.ensures.exact)

pub returns-in_err-imports : goal.returns-in_err-imports
unfolding table_tests
returns-in_err-imports g c =
    let i = image_of c.args.layout in
    let error = c.in_err-imports.field-0.0 in
    let p = err_from_is_err_and c.from_residual-in_err-imports.result c.from_residual-in_err-imports.ensures.1 in
    rw (p.1, p.2) (refused-past (export_tests i) _ error c.in_ok-exports.ensures.exact.0 (refused-in (import_tests i) _ error c.in_err-imports.ensures.exact))

pub returns-in_err-fixups : goal.returns-in_err-fixups
unfolding table_tests
returns-in_err-fixups g c =
    let i = image_of c.args.layout in
    let error = c.in_err-fixups.field-0.0 in
    let slots = ap slots_of c.deref.ensures.value ∙ own_slots c.in_ok-imports.imports.items _ c.in_ok-imports.ensures.exact.1 in
    let refused = subst (λ (s : List ℕ). Refuses (fixup_tests i s) error) slots c.in_err-fixups.ensures.exact in
    let p = err_from_is_err_and c.from_residual-in_err-fixups.result c.from_residual-in_err-fixups.ensures.1 in
    rw (p.1, p.2) (refused-past (export_tests i) _ error c.in_ok-exports.ensures.exact.0
    (refused-past (import_tests i) _ error c.in_ok-imports.ensures.exact.0 refused))

pub returns : goal.returns
unfolding table_tests
returns g c =
    let i = image_of c.args.layout in
    let slots = ap slots_of c.deref.ensures.value ∙ own_slots c.in_ok-imports.imports.items _ c.in_ok-imports.ensures.exact.1 in
    let no_fixup_fault = subst (λ (s : List ℕ). first_standing (fixup_tests i s) ≡ None) slots c.in_ok-fixups.ensures.exact.0 in (
      first-past (export_tests i) _ c.in_ok-exports.ensures.exact.0 ∙ first-past (import_tests i) _ c.in_ok-imports.ensures.exact.0 ∙ no_fixup_fault,
      record {
        layout = refl;
        exports = c.in_ok-exports.ensures.exact.1;
        imports = c.in_ok-imports.ensures.exact.1;
        fixups = c.in_ok-fixups.ensures.exact.1;
      },
    )
