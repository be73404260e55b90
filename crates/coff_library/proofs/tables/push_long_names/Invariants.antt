use Rattle.std.proofs.Common.{◌≡◌, ◌++◌, drop}
use Rattle.std.specs.Prelude.{map}
use Rattle.coff_library.specs.Members.{member_view}
use Rattle.coff_library.specs.Written.{long_names}
use Rattle.coff_library.proofs.tables.push_long_names.Given as goal

abbrev pub invariant-loop-member : goal.invariant-loop-member
invariant-loop-member g l =
    l.bytes.items ++ long_names (map member_view (drop l.member-index l.members)) ≡ l.initial.bytes.items ++ long_names (map member_view l.members)
