use Rattle.std.proofs.Common.{◌∙◌, sym, arith}
use Rattle.std.proofs.lemmas.Result.{err_from_is_err_and}
use Rattle.pe_layout.specs.HeaderSource.{headers_in}
use Rattle.pe_layout.proofs.SectionPlaces.{no_header}
use Rattle.pe_layout.proofs.SectionSteps.{goes_on, stops, ends}
use Rattle.pe_layout.proofs.section_faults.check_placing.Goals as goal

pub returns-in_err-before : goal.returns-in_err-before
returns-in_err-before c =
    let h = headers_in c.args.headers.now in
    let p = err_from_is_err_and c.from_residual.result c.from_residual.ensures.1 in
    rw (p.1, p.2) (sym c.loop-index.invariant
    ∙ stops h c.args.size c.args.image c.loop-index.before c.loop-index.index h.sections.items no_header _ (omega (arith, c.loop-index-test.true, c.section_count-index-end.ensures.value)) (rw (c.section-section.ensures no_header) at c.in_err-before.ensures))

pub loop-index-preserved : goal.loop-index-preserved
loop-index-preserved c =
    let h = headers_in c.args.headers.now in
    let e = rw (c.section-section.ensures no_header) at c.in_ok-before.ensures in
    rw e.1 (sym (goes_on h c.args.size c.args.image c.loop-index.before c.loop-index.index h.sections.items no_header (omega (arith, c.loop-index-test.true, c.section_count-index-end.ensures.value)) e.0)
    ∙ c.loop-index.invariant)

pub returns : goal.returns
returns c =
    let h = headers_in c.args.headers.now in (
      sym c.loop-index.invariant
          ∙ ends h c.args.size c.args.image c.loop-index.before c.loop-index.index h.sections.items (omega (arith, c.loop-index-test.false, c.section_count-index-end.ensures.value)),
      tt,
    )
