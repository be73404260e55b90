use Rattle.json.specs.Print.{escape_byte}
use Rattle.pe_text.proofs.Adding.{◌then◌}
use Rattle.pe_json.specs.JsonText.{member}
use Rattle.pe_json.specs.Listed.{more}
use Rattle.coff_archive_json.specs.Line.{verdict}
use Rattle.coff_archive_json.proofs.line.write_refusal.Goals as goal

pub returns : goal.returns
unfolding verdict more member escape_byte
returns g c = c.text.ensures then c.write_fault.ensures
