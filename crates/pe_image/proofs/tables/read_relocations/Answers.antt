-- Base relocations come after imports without a fault, and are compared with their slots.
use Rattle.std.proofs.Common.{◌≡◌, ℕ, List, IsTrue, inl, inr, ap, subst, ◌∙◌}
use Rattle.std.proofs.lemmas.Result.{err_from_is_err_and}
use Rattle.pe_view.specs.Faults.{AnswersOrWants}
use Rattle.pe_view.specs.FirstStanding.{refused-in}
use Rattle.pe_layout.specs.Layout.{image_of}
use Rattle.pe_tables.specs.FixupFaults.{fixup_tests}
use Rattle.pe_tables.specs.Fixups.{fixups_of}
use Rattle.pe_tables.specs.Import.{slots_of}
use Rattle.pe_tables.specs.ImportFaults.{import_tests}
use Rattle.pe_tables.specs.TableFaults.{goes_past}
use Rattle.pe_image.proofs.Phases.{behind, own_slots}
use Rattle.pe_image.proofs.tables.read_relocations.Goals as goal

pub returns-in_err-imports-clause-exact : goal.returns-in_err-imports-clause-exact
returns-in_err-imports-clause-exact g c =
    let i = image_of c.args.layout.now in
    let p = err_from_is_err_and c.from_residual.result c.from_residual.ensures.1 in
    rw (p.1, p.2) (refused-in (import_tests i) _ c.in_err-imports.field-0.0 c.in_err-imports.ensures.exact)

pub returns-in_err-imports-clause-memory : goal.returns-in_err-imports-clause-memory
returns-in_err-imports-clause-memory g c = λ wants.
    let p = err_from_is_err_and c.from_residual.result c.from_residual.ensures.1 in
    inl (c.in_err-imports.ensures.memory cc (wants, p.1, p.2))

pub returns-clause-exact : goal.returns-clause-exact
returns-clause-exact g c =
    let i = image_of c.args.layout.now in
    let slots = ap slots_of c.deref.ensures.value ∙ own_slots c.in_ok-imports.imports.items _ c.in_ok-imports.ensures.exact.1 in
    let asked = subst (λ (s : List ℕ). AnswersOrWants (fixup_tests i s) (λ fixups. fixups.items ≡ fixups_of i) c.read_fixups.result) slots c.read_fixups.ensures.exact in
    behind (import_tests i) _ _ _ c.read_fixups.result c.in_ok-imports.ensures.exact.0 (λ _ x. x) asked

pub returns-clause-memory : goal.returns-clause-memory
returns-clause-memory g c = λ wants.
    let i = image_of c.args.layout.now in
    let slots = ap slots_of c.deref.ensures.value ∙ own_slots c.in_ok-imports.imports.items _ c.in_ok-imports.ensures.exact.1 in
    inr (c.in_ok-imports.ensures.exact.0, subst (λ (s : List ℕ). IsTrue (goes_past 33 (fixup_tests i s))) slots (c.read_fixups.ensures.memory wants))
