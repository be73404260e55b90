use Rattle.json.specs.Print.{escape_byte}
use Rattle.pe_json.specs.JsonText.{member}
use Rattle.pe_json.specs.Listed.{more}
use Rattle.pe_json.proofs.Objects.{ended}
use Rattle.coff_archive_json.specs.Line.{verdict}
use Rattle.coff_archive_json.proofs.line.write_verdict.Goals as goal

pub returns-in-Some : goal.returns-in-Some
returns-in-Some g c = rw c.in-Some.is c.write_refusal.ensures

pub returns-in-None : goal.returns-in-None
unfolding verdict more member escape_byte
returns-in-None g c = rw c.in-None.is (ended c.text.ensures)
