use Rattle.std.proofs.lemmas.Result.{err_from_is_err_and}
use Rattle.pe_write.proofs.DataSteps.{no_section, too_long}
use Rattle.pe_write.proofs.plan_faults.checked_size.Goals as goal

pub returns-in_err-end : goal.returns-in_err-end
returns-in_err-end c =
    let p = err_from_is_err_and c.from_residual.result c.from_residual.ensures.1 in
    rw (p.1, p.2) (too_long c.args.alignment c.requires.some c.loop-section.section-index c.args.sections.now no_section c.loop-section-test.true c.loop-section.end c.args.headers c.in_err-end.field-0.0 c.loop-section.invariant.size c.in_err-end.ensures)
