-- Each further entry is tested with the one before it.
use Rattle.std.proofs.Common.{◌≡◌, ◌∙◌, ◌-◌, ◌+◌, ℕ, ap, arith}
use Rattle.std.specs.Prelude.{◌&&◌}
use Rattle.pe_layout.specs.Layout.{image_of}
use Rattle.pe_resources.specs.Order.{ascends}
use Rattle.pe_resources.proofs.Ascending.{ascends_more}
use Rattle.pe_resources.proofs.section.Section.is_ascending.Goals as goal

pub loop-index-preserved : goal.loop-index-preserved
loop-index-preserved c =
    let in_count = c.loop-index-test.true in
    let up_to = c.loop-index.auto.index-end in
    let is = c.of-entry.ensures ∙ c.rows-rows.ensures.rows (c.loop-index.index + 1) _ (omega (arith, in_count, up_to)) in
    record {
      ascending = ascends_more (image_of c.args.self.layout.now) c.args.self.start c.args.offset c.loop-index.index c.loop-index.ascending _ c.loop-index.before c.of-entry.result
          c.loop-index.invariant.ascending c.loop-index.invariant.before is (ap (λ (x : _). c.loop-index.ascending && x) c.is_after-ascending.ensures);
      before = is;
    }

pub returns-then-count-lt2 : goal.returns-then-count-lt2
returns-then-count-lt2 c =
    let few = c.if-count-lt2.true in
    let none : 0 ≡ c.args.count - 1 = omega (arith, few) in
    ap (λ (n : ℕ). ascends (image_of c.args.self.layout.now) c.args.self.start c.args.offset n) none

pub returns : goal.returns
returns c =
    let past = c.loop-index-test.false in
    let up_to = c.loop-index.auto.index-end in
    let last : c.loop-index.index ≡ c.args.count - 1 = omega (arith, past, up_to) in
    c.loop-index.invariant.ascending ∙ ap (λ (n : ℕ). ascends (image_of c.args.self.layout.now) c.args.self.start c.args.offset n) last
