-- The run meets the bytes, or the others do.
use Rattle.std.proofs.Common.{◌≡◌, ◌∙◌, true, false, ap, sym}
use Rattle.pe_ranges.specs.Ranges.{meets_any}
use Rattle.pe_ranges.specs.RangesView.{ranges_in}
use Rattle.pe_ranges.proofs.Runs.{meets-run, meets-others}
use Rattle.pe_ranges.proofs.ranges.Ranges.meets.Goals as goal

pub returns-then-run_meets : goal.returns-then-run_meets
unfolding ranges_in
returns-then-run_meets g c =
    let ranges = c.args.self.now in
    let met : meets_any c.args.start c.args.len ranges.run.items ≡ true = ap (meets_any c.args.start c.args.len) (sym c.as_slice.ensures.value) ∙ sym c.run_meets.ensures ∙ c.if-run_meets.true in
    c.if-run_meets.true ∙ sym (meets-run c.args.start c.args.len ranges.run.items ranges.others.entries met)

pub returns-else-run_meets : goal.returns-else-run_meets
unfolding ranges_in
returns-else-run_meets g c =
    let ranges = c.args.self.now in
    let apart : meets_any c.args.start c.args.len ranges.run.items ≡ false = ap (meets_any c.args.start c.args.len) (sym c.as_slice.ensures.value) ∙ sym c.run_meets.ensures ∙ c.if-run_meets.false in
    c.others_meet.ensures ∙ sym (meets-others c.args.start c.args.len ranges.run.items ranges.others.entries apart)
