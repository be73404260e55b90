use Rattle.std.proofs.Common.{List, ℕ, ◌≡◌, ◌++◌, length}
use Rattle.std.specs.List.{flat_map}
use Rattle.std.specs.Option.{option_or}
use Rattle.pe_view.specs.Faults.{first_standing}
use Rattle.coff_archive.specs.ArchiveFile.{file_of, is_thin}
use Rattle.coff_archive.specs.Front.{names_of}
use Rattle.coff_archive.specs.Members.{members}
use Rattle.coff_archive.specs.MembersLeft.{members_left}
use Rattle.pe_text.specs.TextWriter.{Adds}
use Rattle.coff_lines.specs.ArchiveLines.{read_tests}
use Rattle.coff_archive_json.specs.ArchiveJson.{read_line}
use Rattle.coff_archive_json.proofs.lines.write_members.Given as goal

abbrev pub invariant-loop-read : goal.invariant-loop-read
invariant-loop-read g l =
    let thin = is_thin l.archive in
    let file = file_of l.archive in
    record {
      fault : option_or l.first (first_standing (flat_map (read_tests thin (names_of thin file)) (members_left l.members))) ≡ first_standing (flat_map (read_tests thin (names_of thin file)) (members thin file));
      text : (written : List ℕ) × Adds g.W.Sink.taken g.W.Sink.failures l.initial.text l.text written
          × (written ++ flat_map (read_line l.name thin (names_of thin file)) (members_left l.members) ≡ flat_map (read_line l.name thin (names_of thin file)) (members thin file));
    }

abbrev pub decreases-loop-read : goal.decreases-loop-read
decreases-loop-read g l = length (members_left l.members)
