use Rattle.std.proofs.Common.{ℕ, List, ◌≤◌, length}
use Rattle.pe_view.specs.TextEnds.{HasNoZero, AreEndsOf}
use Rattle.pe_view.proofs.text_ends.TextEnds.keep.Given as goal

abbrev pub invariant-loop-known_start : goal.invariant-loop-known_start
invariant-loop-known_start g l = record {
  low : l.start ≤ l.offset;
  known : (file : List ℕ) → AreEndsOf file l.fn.self → HasNoZero file l.offset l.end → AreEndsOf file l.self × HasNoZero file l.start l.end;
}

abbrev pub decreases-loop-known_start : goal.decreases-loop-known_start
decreases-loop-known_start g l = length l.self.starts.entries
