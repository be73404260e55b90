use Rattle.std.proofs.Common.{◌≡◌, ◌+◌, ◌<◌, ◌^◌, drop}
use Rattle.std.specs.Prelude.{map}
use Rattle.coff_library.specs.Members.{member_view}
use Rattle.coff_library.specs.Sizes.{counted, records_size}
use Rattle.coff_library.proofs.layout.archive_size.Given as goal

abbrev pub invariant-loop-member : goal.invariant-loop-member
invariant-loop-member l = record {
  small : l.size < 2 ^ 64;
  sum : counted (l.size + records_size (map member_view (drop l.member-index l.members))) ≡ counted (l.start + records_size (map member_view l.members));
}
