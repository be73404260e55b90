use Rattle.std.proofs.Common.{◌≡◌, ◌-◌, ◌≤◌, take, vec_len}
use Rattle.pe_text.proofs.whole_file.make_room.Given as goal

abbrev pub invariant-loop-bytes : goal.invariant-loop-bytes
invariant-loop-bytes g l = record {
  front : take l.filled l.bytes.items ≡ take l.filled l.initial.bytes.items;
  begins : l.filled ≤ vec_len l.bytes;
  ends : vec_len l.bytes ≤ l.len;
}

abbrev pub decreases-loop-bytes : goal.decreases-loop-bytes
decreases-loop-bytes g l = l.len - vec_len l.bytes
