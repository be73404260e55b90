use Rattle.std.proofs.Common.{◌∙◌, sym, slice_index_or, vec_len, drop, arith}
use Rattle.pe_write.specs.declared.plan.PlanSection.{PlanSection}
use Rattle.pe_write.proofs.DataSteps.{no_section, end_most, raw_most, end_more, data_more, pushed}
use Rattle.pe_write.proofs.plan_data.push_data.Goals as goal

pub push_raw-requires-clause-held : goal.push_raw-requires-clause-held
push_raw-requires-clause-held g c =
    let least = end_most c.args.alignment c.requires.some (drop c.loop-section.section-index c.args.sections.now) (vec_len c.loop-section.bytes) in
    let end = c.loop-section.invariant.end in
    let small = c.requires.small in
    omega arith

pub push_raw-requires-clause-small : goal.push_raw-requires-clause-small
push_raw-requires-clause-small g c =
    let least = raw_most c.args.alignment c.requires.some c.loop-section.section-index c.args.sections.now no_section c.loop-section-test.true (vec_len c.loop-section.bytes) in
    let end = c.loop-section.invariant.end in
    let small = c.requires.small in
    omega arith

pub loop-section-preserved : goal.loop-section-preserved
loop-section-preserved g c =
    let a = c.args.alignment in
    let i = c.loop-section.section-index in
    let ss = c.args.sections.now in
    let s : PlanSection = slice_index_or ss i no_section in
    let whole = sym c.push_raw.new.bytes.ok.0 in
    let next = pushed a c.requires.some c.loop-section.bytes.items c.push_raw.new.bytes.items (vec_len c.loop-section.bytes) (vec_len c.push_raw.new.bytes) s c.loop-section.invariant.whole whole c.in_ok-push_raw.ensures in
    record {
      whole = whole;
      items = data_more a c.requires.some i ss no_section c.loop-section-test.true c.loop-section.bytes.items c.push_raw.new.bytes.items (vec_len c.loop-section.bytes) (vec_len c.push_raw.new.bytes) next c.in_ok-push_raw.ensures ∙ c.loop-section.invariant.items;
      end = end_more a c.requires.some i ss no_section c.loop-section-test.true (vec_len c.loop-section.bytes) (vec_len c.push_raw.new.bytes) next ∙ c.loop-section.invariant.end;
    }
