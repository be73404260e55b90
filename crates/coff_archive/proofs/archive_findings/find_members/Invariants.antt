use Rattle.std.proofs.Common.{◌≡◌, ◌≢◌, [], ◌++◌, length}
use Rattle.std.specs.List.{flat_map}
use Rattle.pe_view.specs.Standing.{standing}
use Rattle.coff_archive.specs.ArchiveFile.{file_of, is_thin}
use Rattle.coff_archive.specs.Findings.{read_tests}
use Rattle.coff_archive.specs.Front.{names_of}
use Rattle.coff_archive.specs.Members.{members}
use Rattle.coff_archive.specs.MembersLeft.{members_left}
use Rattle.coff_archive.proofs.archive_findings.find_members.Given as goal

abbrev pub invariant-loop-read : goal.invariant-loop-read
invariant-loop-read g l =
    (l.found.items ++ standing (flat_map (read_tests (names_of (is_thin l.archive) (file_of l.archive))) (members_left l.members))
    ≡ l.fn.found.items ++ standing (flat_map (read_tests (names_of (is_thin l.archive) (file_of l.archive))) (members (is_thin l.archive) (file_of l.archive))))
    × (standing (flat_map (read_tests (names_of (is_thin l.archive) (file_of l.archive))) (members_left l.members)) ≢ [] → standing (flat_map (read_tests (names_of (is_thin l.archive) (file_of l.archive))) (members (is_thin l.archive) (file_of l.archive))) ≢ [])

abbrev pub decreases-loop-read : goal.decreases-loop-read
decreases-loop-read g l = length (members_left l.members)
