use Rattle.std.proofs.Common.{◌∙◌, sym}
use Rattle.pe_write.proofs.RangeSteps.{goes_on, stops, ends}
use Rattle.pe_write.proofs.raw_data.check_raw_data.Goals as goal

pub returns-then-is_crowded : goal.returns-then-is_crowded
returns-then-is_crowded c =
    let items = c.args.headers.now.sections.items in
    let test = rw c.as_slice-sections.ensures.value at (sym (c.is_crowded.ensures c.loop-index.index) ∙ c.if-is_crowded.true) in
    rw c.section_offset.ensures (sym c.loop-index.invariant ∙ stops c.args.headers.now c.loop-index.index items _ (rw (← c.as_slice-sections.ensures.value) c.loop-index-test.true) test)

pub loop-index-preserved : goal.loop-index-preserved
loop-index-preserved c =
    let items = c.args.headers.now.sections.items in
    let test = rw c.as_slice-sections.ensures.value at (sym (c.is_crowded.ensures c.loop-index.index) ∙ c.if-is_crowded.false) in
    sym (goes_on c.args.headers.now c.loop-index.index items _ (rw (← c.as_slice-sections.ensures.value) c.loop-index-test.true) test) ∙ c.loop-index.invariant

pub returns : goal.returns
returns c =
    let items = c.args.headers.now.sections.items in
    (sym c.loop-index.invariant ∙ ends c.args.headers.now c.loop-index.index _ items (rw (← c.as_slice-sections.ensures.value) c.loop-index-test.false), tt)
