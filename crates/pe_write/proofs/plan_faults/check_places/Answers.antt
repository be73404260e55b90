use Rattle.std.proofs.Common.{◌∙◌, sym, drop, get_or, arith}
use Rattle.std.proofs.lemmas.Result.{err_from_is_err_and}
use Rattle.pe_write.proofs.DataSteps.{no_section, end_most, raw_most, end_held, end_more}
use Rattle.pe_write.proofs.Planned.{end_some}
use Rattle.pe_write.proofs.SectionSteps.{stops, goes_on, ends}
use Rattle.pe_write.proofs.plan_faults.check_places.Goals as goal

pub section_header-header-requires-clause-small : goal.section_header-header-requires-clause-small
section_header-header-requires-clause-small c =
    let least = raw_most c.args.alignment c.requires.some c.loop-section.section-index c.args.sections.now no_section c.loop-section-test.true c.loop-section.end in
    let held = c.loop-section.invariant.held in
    omega arith

pub section_header-header-requires-clause-held : goal.section_header-header-requires-clause-held
section_header-header-requires-clause-held c =
    let least = end_held c.args.alignment c.requires.some c.loop-section.section-index c.args.sections.now no_section c.loop-section-test.true c.loop-section.end in
    let held = c.loop-section.invariant.held in
    omega arith

pub raw_end-end-requires-clause-held : goal.raw_end-end-requires-clause-held
raw_end-end-requires-clause-held c =
    let least = end_most c.args.alignment c.requires.some (drop c.loop-section.section-index c.args.sections.now) c.loop-section.end in
    let held = c.loop-section.invariant.held in
    omega arith

pub loop-section-preserved : goal.loop-section-preserved
loop-section-preserved c =
    let a = c.args.alignment in
    let i = c.loop-section.section-index in
    let ss = c.args.sections.now in
    let lt = c.loop-section-test.true in
    let end = c.loop-section.end in
    let n = c.raw_end-end.result in
    let stop = c.raw_end-end.ensures in
    let more = end_more a c.requires.some i ss no_section lt end n stop in
    let held = c.loop-section.invariant.held in
    let behind = c.loop-section.invariant.behind in
    let grows = end_some a c.requires.some end (get_or ss i no_section) behind in
    record {
      behind = omega (arith, stop, grows);
      held = omega (arith, more);
      tests =
          goes_on a i ss no_section lt c.args.image c.args.headers c.loop-section.before end c.section_header-header.result c.section_header-header.ensures c.is_misplaced.result c.is_misplaced.ensures c.image_end-before.result n c.image_end-before.ensures stop c.in_ok-check.ensures.0
          ∙ c.loop-section.invariant.tests;
    }

pub returns-in_err-check : goal.returns-in_err-check
returns-in_err-check c =
    let a = c.args.alignment in
    let i = c.loop-section.section-index in
    let ss = c.args.sections.now in
    let lt = c.loop-section-test.true in
    let p = err_from_is_err_and c.from_residual.result c.from_residual.ensures.1 in
    rw (p.1, p.2)
    (sym c.loop-section.invariant.tests
    ∙ stops a i ss no_section lt c.args.image c.args.headers c.loop-section.before c.loop-section.end c.section_header-header.result c.section_header-header.ensures c.is_misplaced.result c.is_misplaced.ensures c.in_err-check.field-0.0 c.in_err-check.ensures)

pub returns : goal.returns
returns c = (
  sym c.loop-section.invariant.tests ∙ ends c.args.image c.args.headers c.loop-section.before c.args.alignment c.loop-section.end c.loop-section.section-index c.args.sections.now c.loop-section-test.false,
  tt,
)
