use Rattle.std.proofs.Common.{◌≡◌, ◌+◌, ◌<◌, ◌^◌, length, drop}
use Rattle.std.specs.Prelude.{map}
use Rattle.coff_library.specs.Members.{member_view}
use Rattle.coff_library.specs.Sizes.{counted}
use Rattle.coff_library.specs.Written.{long_names}
use Rattle.coff_library.proofs.layout.long_size.Given as goal

abbrev pub invariant-loop-member : goal.invariant-loop-member
invariant-loop-member l = record {
  small : l.size < 2 ^ 64;
  sum : counted (l.size + length (long_names (map member_view (drop l.member-index l.members)))) ≡ counted (length (long_names (map member_view l.members)));
}
