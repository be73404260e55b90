use Rattle.std.proofs.Common.{◌≡◌, ◌+◌, ◌++◌, length, drop}
use Rattle.std.specs.Prelude.{map}
use Rattle.coff_library.specs.Members.{member_view}
use Rattle.coff_library.specs.Written.{long_names, records_from}
use Rattle.coff_library.proofs.write.push_members.Given as goal

abbrev pub invariant-loop-member : goal.invariant-loop-member
invariant-loop-member g l = record {
  names : l.next + length (long_names (map member_view (drop l.member-index l.members))) ≡ length (long_names (map member_view l.members));
  bytes :
      l.bytes.items ++ records_from l.next (map member_view (drop l.member-index l.members))
      ≡ l.initial.bytes.items ++ records_from 0 (map member_view l.members);
}
