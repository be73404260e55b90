use Rattle.std.proofs.Common.{◌≡◌, length}
use Rattle.std.specs.List.{flat_map}
use Rattle.std.specs.Option.{option_or}
use Rattle.pe_view.specs.Faults.{first_standing}
use Rattle.coff_archive.specs.ArchiveFile.{file_of, is_thin}
use Rattle.coff_archive.specs.Front.{names_of}
use Rattle.coff_archive.specs.Members.{members}
use Rattle.coff_archive.specs.MembersLeft.{members_left}
use Rattle.coff_lines.specs.ArchiveLines.{read_tests}
use Rattle.coff_archive_page.proofs.members.check_members.Given as goal

-- the first fault so far, or else the first of what is left, is the first of all
abbrev pub invariant-loop-read : goal.invariant-loop-read
invariant-loop-read g l =
    let thin = is_thin l.archive in
    let file = file_of l.archive in
    option_or l.first (first_standing (flat_map (read_tests thin (names_of thin file)) (members_left l.walk)))
    ≡ first_standing (flat_map (read_tests thin (names_of thin file)) (members thin file))

abbrev pub decreases-loop-read : goal.decreases-loop-read
decreases-loop-read g l = length (members_left l.walk)
