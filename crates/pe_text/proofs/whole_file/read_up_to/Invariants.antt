use Rattle.std.proofs.Common.{◌≡◌, ◌-◌, ◌≤◌, ◌++◌, ℕ, List, take, vec_len}
use Rattle.pe_text.proofs.whole_file.read_up_to.Given as goal

abbrev pub invariant-loop-filled : goal.invariant-loop-filled
invariant-loop-filled g l = record {
  reads : (input : List ℕ) × (g.R.Source.given l.reader ≡ g.R.Source.given l.initial.reader ++ input) × (take l.filled l.bytes.items ≡ l.initial.bytes.items ++ input);
  count : g.R.Source.failures l.reader ≡ g.R.Source.failures l.initial.reader;
  within : l.filled ≤ vec_len l.bytes;
  few : vec_len l.bytes ≤ l.limit;
}

abbrev pub decreases-loop-filled : goal.decreases-loop-filled
decreases-loop-filled g l = l.limit - l.filled
