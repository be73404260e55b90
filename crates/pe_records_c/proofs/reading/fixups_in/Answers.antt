-- The table is read if the layout has no fault.
use Rattle.std.proofs.Common.{◌≡◌, subst}
use Rattle.std.proofs.lemmas.Result.{err_from_is_err_and}
use Rattle.pe_view.specs.Faults.{AnswersOrWants}
use Rattle.pe_view.specs.declared.refusal.Refusal.TheVariants as refusals
use Rattle.pe_view.specs.FirstStanding.{refused-in}
use Rattle.pe_layout.specs.Image.{LaidOut, image_of_file}
use Rattle.pe_layout.specs.SectionFaults.{layout_tests}
use Rattle.pe_tables.specs.Fixups.{fixups_of}
use Rattle.pe_image.specs.ImageTests.{relocation_tests}
use Rattle.pe_records_c.specs.TableTests.{file_relocation_tests}
use Rattle.pe_image.specs.Wants.{FixupsTakeMemory}
use Rattle.pe_records_c.proofs.Phases.{behind}
use Rattle.pe_records_c.proofs.reading.fixups_in.Goals as goal

pub returns-in_err-layout-clause-exact : goal.returns-in_err-layout-clause-exact
unfolding file_relocation_tests
returns-in_err-layout-clause-exact c =
    let file = c.args.file.now in
    let p = err_from_is_err_and c.from_residual.result c.from_residual.ensures.1 in
    rw (p.1, p.2) (refused-in (layout_tests 0 file) (relocation_tests (image_of_file 0 file)) (refusals.Fault c.in_err-layout.field-0.0) c.in_err-layout.ensures)

pub returns-clause-exact : goal.returns-clause-exact
unfolding file_relocation_tests
returns-clause-exact c =
    let file = c.args.file.now in
    let laid = c.in_ok-layout.ensures in
    let asked = subst (λ (i : LaidOut). AnswersOrWants (relocation_tests i) (λ fixups. fixups.items ≡ fixups_of i) c.read_relocations.result) laid.1.shows c.read_relocations.ensures.exact in
    behind (layout_tests 0 file) (relocation_tests (image_of_file 0 file)) _ c.read_relocations.result laid.0 asked

pub returns-clause-memory : goal.returns-clause-memory
returns-clause-memory c wants =
    let laid = c.in_ok-layout.ensures in
    (laid.0, subst FixupsTakeMemory laid.1.shows (c.read_relocations.ensures.memory wants))
