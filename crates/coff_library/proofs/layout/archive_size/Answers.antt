-- All members are counted.
use Rattle.std.proofs.Common.{refl}
use Rattle.std.specs.Prelude.{map}
use Rattle.coff_library.specs.Members.{member_view}
use Rattle.coff_library.specs.Sizes.{records_size}
use Rattle.coff_library.proofs.Loops.{all_counted}
use Rattle.coff_library.proofs.layout.archive_size.Goals as goal

pub returns : goal.returns
returns c = all_counted (λ xs. records_size (map member_view xs)) c.args.members.now c.loop-member.member-index _ _ c.loop-member-test.false c.loop-member.invariant.small refl c.loop-member.invariant.sum
