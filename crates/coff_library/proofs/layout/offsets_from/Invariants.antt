use Rattle.std.proofs.Common.{◌≡◌, ◌++◌, drop}
use Rattle.std.specs.Prelude.{map}
use Rattle.coff_library.specs.Members.{member_view}
use Rattle.pe_view.specs.Faults.{first_standing}
use Rattle.coff_library.specs.WriteFaults.{size_tests}
use Rattle.coff_library.specs.Written.{offsets_from}
use Rattle.coff_library.proofs.layout.offsets_from.Given as goal

abbrev pub invariant-loop-member : goal.invariant-loop-member
invariant-loop-member g l = record {
  index : l.index ≡ l.member-index;
  tests : first_standing (size_tests l.index l.at (map member_view (drop l.member-index l.members))) ≡ first_standing (size_tests 0 l.start (map member_view l.members));
  offsets : l.offsets.items ++ offsets_from l.at (map member_view (drop l.member-index l.members)) ≡ offsets_from l.start (map member_view l.members);
}
