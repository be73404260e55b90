-- The last range that starts before the bytes end decides.
use Rattle.std.proofs.Common.{◌∙◌, sym, arith}
use Rattle.pe_ranges.proofs.Runs.{run_meets-none, run_meets-last}
use Rattle.pe_ranges.proofs.ranges.run_meets.Goals as goal

pub returns-then-count-eq0 : goal.returns-then-count-eq0
returns-then-count-eq0 c = sym (run_meets-none c.args.run.now c.args.start c.args.len c.count_below-count.result c.count_below-count.ensures.these (omega arith))

pub returns : goal.returns
returns c =
    let within = c.count_below-count.ensures.within in
    c.ends_behind.ensures
    ∙ sym (run_meets-last c.args.run.now c.args.start c.args.len c.count_below-count.result _ c.requires.ascending c.count_below-count.ensures.these (omega arith) within)
