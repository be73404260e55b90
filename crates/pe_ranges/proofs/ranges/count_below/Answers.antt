-- The ranges of a run that start below an RVA come first.
use Rattle.std.proofs.Common.{ℕ, arith}
use Rattle.std.specs.Prelude.{nat_lt}
use Rattle.std.proofs.lemmas.Bool.{le-ltb, lt-ltb}
use Rattle.pe_ranges.proofs.Runs.{filter-front}
use Rattle.pe_ranges.proofs.ranges.count_below.Goals as goal

pub returns-then-all_below-clause-these : goal.returns-then-all_below-clause-these
returns-then-all_below-clause-these c =
    filter-front (λ (range : ℕ × ℕ). nat_lt range.0 c.args.rva) c.args.run.now _
    (λ i d lt within. let less = c.all_below.ensures.0 c.if-all_below.true i d within in lt-ltb _ _ less)
    (λ i d le within. absurd (omega arith))

pub returns-then-none_below-clause-these : goal.returns-then-none_below-clause-these
returns-then-none_below-clause-these c =
    filter-front (λ (range : ℕ × ℕ). nat_lt range.0 c.args.rva) c.args.run.now 0
    (λ i d lt within. absurd (omega (arith, lt)))
    (λ i d le within. let behind = c.none_below.ensures c.if-none_below.true i d within in le-ltb _ _ behind)
