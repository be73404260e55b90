use Rattle.std.proofs.Common.{◌≡◌, ◌-◌, ◌≤◌, ◌++◌, drop, length}
use Rattle.petool.specs.WordBytes.{word_bytes}
use Rattle.petool.proofs.word_bytes.unmarked.Given as goal

abbrev pub invariant-loop-at : goal.invariant-loop-at
invariant-loop-at g l = record {
  inside : l.at ≤ length l.string;
  done : l.bytes.items ++ word_bytes (drop l.at l.string) ≡ word_bytes l.string;
}

abbrev pub decreases-loop-at : goal.decreases-loop-at
decreases-loop-at g l = length l.string - l.at
