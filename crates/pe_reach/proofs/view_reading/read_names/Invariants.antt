use Rattle.std.proofs.Common.{◌≡◌, ◌-◌, ◌+◌, ◌^◌, ◌≤◌, ℕ, true, false, List, ◌++◌, length}
use Rattle.std.specs.Prelude.{if◌then◌else◌}
use Rattle.pe_reach.specs.Settled.{IsSettled}
use Rattle.pe_reach.proofs.view_reading.read_names.Given as goal

abbrev pub invariant-loop-has_ended : goal.invariant-loop-has_ended
invariant-loop-has_ended g l = record {
  reads : (more : List ℕ) × (g.R.Source.given l.reader ≡ g.R.Source.given l.initial.reader ++ more) × (l.bytes.items ≡ l.initial.bytes.items ++ more);
  count : g.R.Source.failures l.reader ≡ g.R.Source.failures l.initial.reader;
  few : length l.bytes.items ≤ 2 ^ 32 + 1;
  ends : l.has_ended ≡ true → g.R.Source.ended l.reader ≡ true;
  goes_on : l.has_ended ≡ false → IsSettled l.len l.initial.bytes.items;
}

-- a read that sees the end ends the loop, and every other makes the bytes more
abbrev pub decreases-loop-has_ended : goal.decreases-loop-has_ended
decreases-loop-has_ended g l = (2 ^ 32 + 1 - length l.bytes.items) + (if l.has_ended then 0 else 1)
