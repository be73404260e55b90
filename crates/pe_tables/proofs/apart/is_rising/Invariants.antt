use Rattle.std.proofs.Common.{◌≤◌, take}
use Rattle.std.specs.Prelude.{All, AllPairs}
use Rattle.pe_ranges.specs.Ranges.{range_end}
use Rattle.pe_tables.proofs.apart.is_rising.Given as goal

abbrev pub invariant-loop-range : goal.invariant-loop-range
invariant-loop-range l = record {
  rising : AllPairs (λ range later. range_end range ≤ later.0) (take l.range-index l.ranges);
  ends : All (λ range. range_end range ≤ l.end) (take l.range-index l.ranges);
}
