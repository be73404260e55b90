use Rattle.std.proofs.Common.{◌≡◌, length}
use Rattle.std.specs.Prelude.{filter, find, slice_get, option_map}
use Rattle.std.specs.Option.{option_or}
use Rattle.coff_archive.specs.ArchiveFile.{file_of, is_thin}
use Rattle.coff_archive.specs.Front.{names_of}
use Rattle.coff_archive.specs.Members.{members}
use Rattle.coff_archive.specs.MembersLeft.{members_left}
use Rattle.coff_archive.specs.MemberView.{read_view}
use Rattle.coff_archive.specs.Named.{is_fault, named_at, reads_named}
use Rattle.coff_archive.proofs.archive.Archive.find.Given as goal

abbrev pub invariant-loop-read : goal.invariant-loop-read
invariant-loop-read l =
    let thin = is_thin l.self in
    let file = file_of l.self in
    let names = names_of thin file in
    option_or (slice_get (filter (reads_named names l.name) (members_left l.members)) l.left) (option_or (option_map read_view l.fault) (find is_fault (members_left l.members)))
    ≡ named_at names l.name l.index (members thin file)

abbrev pub decreases-loop-read : goal.decreases-loop-read
decreases-loop-read l = length (members_left l.members)
