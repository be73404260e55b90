use Rattle.std.proofs.Common.{◌≡◌, ◌+◌, ◌++◌, drop}
use Rattle.std.specs.Prelude.{map}
use Rattle.pe_numbers.specs.Numbers.{numbers_bytes}
use Rattle.pe_resource_files.specs.Group.{pair_of}
use Rattle.pe_resource_files.specs.PicturesFile.{total_len, entries_from}
use Rattle.pe_resource_files.proofs.pictures.push_entries.Given as goal

abbrev pub invariant-loop-picture : goal.invariant-loop-picture
invariant-loop-picture g l = record {
  small : l.at + total_len (map pair_of (drop l.picture-index l.pictures)) ≡ l.start + total_len (map pair_of l.pictures);
  bytes : l.bytes.items ++ numbers_bytes (entries_from l.at (map pair_of (drop l.picture-index l.pictures))) ≡ l.initial.bytes.items ++ numbers_bytes (entries_from l.start (map pair_of l.pictures));
}
