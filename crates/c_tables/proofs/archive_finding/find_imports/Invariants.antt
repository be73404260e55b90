use Rattle.std.proofs.Common.{◌≡◌, ◌≢◌, [], ◌++◌, length}
use Rattle.std.specs.List.{flat_map}
use Rattle.coff_archive.specs.ArchiveFile.{file_of, is_thin}
use Rattle.coff_archive.specs.MembersLeft.{members_left}
use Rattle.c_tables.specs.ArchiveFindings.{import_findings, import_found}
use Rattle.c_tables.proofs.archive_finding.find_imports.Given as goal

abbrev pub invariant-loop-read : goal.invariant-loop-read
invariant-loop-read l =
    (l.found.items ++ flat_map (import_found (is_thin l.archive)) (members_left l.members)
    ≡ l.fn.found.items ++ import_findings (is_thin l.archive) (file_of l.archive))
    × (flat_map (import_found (is_thin l.archive)) (members_left l.members) ≢ [] → import_findings (is_thin l.archive) (file_of l.archive) ≢ [])

abbrev pub decreases-loop-read : goal.decreases-loop-read
decreases-loop-read l = length (members_left l.members)
