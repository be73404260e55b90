use Rattle.std.proofs.Common.{◌∙◌, drop, get_or, arith}
use Rattle.pe_write.proofs.DataSteps.{no_section, end_most, raw_most, end_held, end_more}
use Rattle.pe_write.proofs.Planned.{end_some}
use Rattle.pe_write.proofs.SectionSteps.{rows_more, table_more}
use Rattle.pe_write.proofs.plan_headers.push_table.Goals as goal

pub section_header-requires-clause-small : goal.section_header-requires-clause-small
section_header-requires-clause-small g c =
    let least = raw_most c.args.alignment c.requires.some c.loop-section.section-index c.args.sections.now no_section c.loop-section-test.true c.loop-section.end in
    let held = c.loop-section.invariant.held in
    omega arith

pub section_header-requires-clause-held : goal.section_header-requires-clause-held
section_header-requires-clause-held g c =
    let least = end_held c.args.alignment c.requires.some c.loop-section.section-index c.args.sections.now no_section c.loop-section-test.true c.loop-section.end in
    let held = c.loop-section.invariant.held in
    omega arith

pub raw_end-end-requires-clause-held : goal.raw_end-end-requires-clause-held
raw_end-end-requires-clause-held g c =
    let least = end_most c.args.alignment c.requires.some (drop c.loop-section.section-index c.args.sections.now) c.loop-section.end in
    let held = c.loop-section.invariant.held in
    omega arith

pub loop-section-preserved : goal.loop-section-preserved
loop-section-preserved g c =
    let a = c.args.alignment in
    let i = c.loop-section.section-index in
    let ss = c.args.sections.now in
    let lt = c.loop-section-test.true in
    let end = c.loop-section.end in
    let n = c.raw_end-end.result in
    let stop = c.raw_end-end.ensures in
    let more = end_more a c.requires.some i ss no_section lt end n stop in
    let held = c.loop-section.invariant.held in
    let behind = c.loop-section.invariant.behind in
    let grows = end_some a c.requires.some end (get_or ss i no_section) behind in
    record {
      behind = omega (arith, stop, grows);
      held = omega (arith, more);
      told = λ rest. c.loop-section.invariant.told (rows_more a i ss no_section lt end n stop c.section_header.result c.section_header.ensures c.in_ok-push_section.ensures.fits rest);
      bytes = table_more a i ss no_section lt end n stop c.section_header.result c.section_header.ensures c.loop-section.bytes.items c.push_section.new.bytes.items c.in_ok-push_section.ensures.bytes ∙ c.loop-section.invariant.bytes;
    }
