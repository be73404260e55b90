use Rattle.std.proofs.Common.{◌≡◌, ◌+◌, ◌-◌, ◌≤◌, ◌++◌, ℕ, List, take, vec_len}
use Rattle.pe_reach.specs.Parts.{Part, HasParts, Stand}
use Rattle.pe_reach.proofs.parts_reading.read_range.Given as goal

abbrev pub invariant-loop-filled : goal.invariant-loop-filled
invariant-loop-filled g l = record {
  reads : (read : List Part) × (g.R.PartSource.parts l.reader ≡ g.R.PartSource.parts l.initial.reader ++ read)
      × ((file : List ℕ) → HasParts file read → Stand file l.bytes.items l.offset l.start l.filled);
  failures : g.R.PartSource.failures l.reader ≡ g.R.PartSource.failures l.initial.reader;
  size : vec_len l.bytes ≡ l.start + l.count;
  front : take l.start l.bytes.items ≡ take l.start l.initial.bytes.items;
  within : l.filled ≤ l.count;
}

abbrev pub decreases-loop-filled : goal.decreases-loop-filled
decreases-loop-filled g l = l.count - l.filled
