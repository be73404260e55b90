use Rattle.json.specs.Print.{escape_byte}
use Rattle.pe_text.proofs.Adding.{◌then◌}
use Rattle.pe_json.specs.JsonText.{member}
use Rattle.pe_json.specs.Listed.{more}
use Rattle.pe_json.proofs.Objects.{ended}
use Rattle.coff_archive_json.specs.ImportMembers.{import_members}
use Rattle.coff_archive_json.proofs.import.write_import.Goals as goal

pub returns-then-has_failed : goal.returns-then-has_failed
returns-then-has_failed g c = c.has_failed.ensures.ends c.if-has_failed.true _

pub returns : goal.returns
unfolding import_members more member escape_byte
returns g c = ended (c.text.ensures then c.write_row.ensures)
