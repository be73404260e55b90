use Rattle.std.proofs.Common.{◌≡◌, drop}
use Rattle.std.specs.Prelude.{map}
use Rattle.coff_library.specs.Members.{member_view}
use Rattle.pe_view.specs.Faults.{first_standing}
use Rattle.coff_library.specs.WriteFaults.{name_tests}
use Rattle.coff_library.proofs.check.check_names.Given as goal

abbrev pub invariant-loop-member : goal.invariant-loop-member
invariant-loop-member l = record {
  index : l.index ≡ l.member-index;
  tests : first_standing (name_tests l.index (map member_view (drop l.member-index l.members))) ≡ first_standing (name_tests 0 (map member_view l.members));
}
