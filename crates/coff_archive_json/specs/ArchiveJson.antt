-- The lines of JSON of an archive of COFF objects: a line for each member, and one for the archive. The outcome is that of its dump.
use Rattle.std.specs.Prelude.{◌≡◌, ℕ, Bool, List, ◌++◌, Option, None, Some, Result, Ok, Err}
use Rattle.std.specs.List.{flat_map}
use Rattle.std.specs.Option.{option_or}
use Rattle.pe_view.specs.declared.fault.Fault.{Fault}
use Rattle.pe_view.specs.Faults.{first_standing}
use Rattle.coff_archive.specs.FileTests.{file_tests, is_thin_file}
use Rattle.coff_archive.specs.Front.{names_of}
use Rattle.coff_archive.specs.Members.{Member, members}
use Rattle.coff_lines.specs.ArchiveLines.{archive_fault, outcome_by}
use Rattle.pe_text.specs.declared.outcome.Outcome.{Outcome}
use Rattle.coff_archive_json.specs.ArchiveLine.{archive_line}
use Rattle.coff_archive_json.specs.Line.{refused_line}
use Rattle.coff_archive_json.specs.MemberLine.{member_line}

-- the line of what a walk over the members reads: a member, or the finding that ends them
abbrev pub read_line : List ℕ → Bool → List ℕ → Result Member Fault → List ℕ
read_line archive thin names (Ok m) = member_line archive thin names m
read_line archive thin names (Err fault) = refused_line archive fault

-- the lines of an archive with this name
unfoldable pub archive_lines : List ℕ → Bool → List ℕ → List ℕ
archive_lines archive thin file =
    flat_map (read_line archive thin (names_of thin file)) (members thin file) ++ archive_line archive thin file (archive_fault thin file)

-- the lines, or the line of the fault for which the file is no archive
abbrev pub lines_unless : List ℕ → List ℕ → Option Fault → List ℕ
lines_unless archive lines None = lines
lines_unless archive lines (Some fault) = refused_line archive fault

-- what `archive_json` writes for a file of an archive with this name, and what it answers
abbrev pub IsArchiveJson : List ℕ → List ℕ → Outcome → List ℕ → Type 0
IsArchiveJson archive file outcome text =
    (outcome ≡ outcome_by (option_or (first_standing (file_tests file)) (archive_fault (is_thin_file file) file)))
    × (text ≡ lines_unless archive (archive_lines archive (is_thin_file file) file) (first_standing (file_tests file)))
