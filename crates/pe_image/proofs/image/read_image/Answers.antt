-- The tables are read if the layout has no fault.
use Rattle.std.proofs.Common.{subst}
use Rattle.std.proofs.lemmas.Result.{err_from_is_err_and}
use Rattle.pe_view.specs.Faults.{AnswersOrWants}
use Rattle.pe_view.specs.FirstStanding.{refused-in}
use Rattle.pe_view.specs.declared.refusal.Refusal.TheVariants as refusals
use Rattle.pe_layout.specs.Image.{LaidOut, image_of_file}
use Rattle.pe_layout.specs.SectionFaults.{layout_tests}
use Rattle.pe_image.specs.ImageOf.{HoldsTablesOf, IsImageOf}
use Rattle.pe_image.specs.ImageTests.{image_tests, table_tests}
use Rattle.pe_image.proofs.Phases.{behind, has_bytes, tables_of_file}
use Rattle.pe_image.proofs.image.read_image.Goals as goal

pub returns-in_err-layout-clause-exact : goal.returns-in_err-layout-clause-exact
unfolding image_tests
returns-in_err-layout-clause-exact g c =
    let file = c.args.file.now in
    let number = c.args.number in
    let p = err_from_is_err_and c.from_residual.result c.from_residual.ensures.1 in
    rw (p.1, p.2) (refused-in (layout_tests number file) (table_tests (image_of_file number file)) (refusals.Fault c.in_err-layout.field-0.0) c.in_err-layout.ensures)

pub returns-clause-exact : goal.returns-clause-exact
unfolding image_tests
returns-clause-exact g c =
    let file = c.args.file.now in
    let number = c.args.number in
    let layout = c.in_ok-layout.layout in
    let laid = c.in_ok-layout.ensures in
    let asked = subst (λ (i : LaidOut). AnswersOrWants (table_tests i) (HoldsTablesOf layout) c.read_whole.result) laid.1.shows c.read_whole.ensures in
    behind (layout_tests number file) (table_tests (image_of_file number file)) (HoldsTablesOf layout) (IsImageOf number file) c.read_whole.result laid.0
    (λ i. tables_of_file number file layout i laid.1) asked

pub returns-clause-memory : goal.returns-clause-memory
returns-clause-memory g c = λ _. c.in_ok-layout.ensures.0

pub returns-clause-not_empty : goal.returns-clause-not_empty
returns-clause-not_empty g c = λ _. has_bytes c.args.number c.args.file.now c.in_ok-layout.ensures.0
