use Rattle.pe_text.proofs.Adding.{◌then◌}
use Rattle.coff_lines.specs.ArchiveLines.{archive_fault}
use Rattle.coff_archive_json.specs.ArchiveJson.{archive_lines}
use Rattle.coff_archive_json.proofs.lines.write_archive.Goals as goal

pub returns-clause-adds : goal.returns-clause-adds
unfolding archive_lines archive_fault
returns-clause-adds g c = c.write_members-first.ensures.adds then (rw c.write_members-first.ensures.fault at c.write_archive_line.ensures)
