use Rattle.std.proofs.Common.{◌≡◌, ℕ, ◌<◌, ◌≤◌, ◌-◌, ◌*◌, length, min, slice_index_or}
use Rattle.coff_archive.specs.NameEnds.{end_from}
use Rattle.coff_archive.proofs.member_names.block_ends.Given as goal

abbrev pub invariant-loop-done : goal.invariant-loop-done
invariant-loop-done g l = record {
  len : length l.ends.items ≡ l.count;
  next : l.next ≡ end_from l.names (min (length l.names) (256 * (l.count - l.done)));
  each : (block : ℕ) → l.count - l.done ≤ block → block < l.count → slice_index_or l.ends.items block 0 ≡ end_from l.names (256 * block);
}
