-- The tables are read if the layout has no fault.
use Rattle.std.proofs.Common.{subst}
use Rattle.std.proofs.lemmas.Result.{err_from_is_err_and}
use Rattle.pe_view.specs.FirstStanding.{first-in}
use Rattle.pe_layout.specs.Image.{LaidOut, image_of_file}
use Rattle.pe_layout.specs.Layout.{image_of}
use Rattle.pe_layout.specs.SectionFaults.{layout_tests}
use Rattle.pe_image.specs.ImageTests.{image_tests, table_tests}
use Rattle.pe_image.specs.HasBytes.{has_bytes}
use Rattle.pe_reach.specs.Views.{seen_of}
use Rattle.pe_text.specs.Outcome.{IsOutcomeOf}
use Rattle.pe_page.proofs.Behind.{behind}
use Rattle.pe_at.proofs.at_place.write_image_spots.Goals as goal

pub returns-in_err-image-in-Ok-clause-reads : goal.returns-in_err-image-in-Ok-clause-reads
returns-in_err-image-in-Ok-clause-reads g c =
    let p = err_from_is_err_and c.from_residual.result c.from_residual.ensures.1 in
    rw p.1 (has_bytes 0 (seen_of c.args.file) c.in-Ok.ensures.0)

pub returns-in_ok-image-in-Ok-clause-judged : goal.returns-in_ok-image-in-Ok-clause-judged
unfolding image_tests
returns-in_ok-image-in-Ok-clause-judged g c =
    let file = seen_of c.args.file in
    let outcome = c.outcome_of.result in
    let judged = c.outcome_of.ensures (table_tests (image_of c.in-Ok.layout)) c.in_ok-image-in-Ok.ensures.fault in
    behind (layout_tests 0 file) (table_tests (image_of_file 0 file)) outcome c.in-Ok.ensures.0
    (subst (λ (i : LaidOut). IsOutcomeOf (table_tests i) outcome) c.in-Ok.ensures.1.shows judged)

pub returns-in-Err-clause-judged : goal.returns-in-Err-clause-judged
unfolding image_tests
returns-in-Err-clause-judged g c =
    let file = seen_of c.args.file in
    first-in (layout_tests 0 file) (table_tests (image_of_file 0 file)) c.in-Err.fault c.in-Err.ensures
