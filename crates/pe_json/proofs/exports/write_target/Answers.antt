use Rattle.json.specs.Print.{escape_byte}
use Rattle.pe_json.specs.JsonText.{member}
use Rattle.pe_json.specs.Listed.{more}
use Rattle.pe_json.specs.ExportRows.{target_members}
use Rattle.pe_json.proofs.Objects.{ended}
use Rattle.pe_json.proofs.exports.write_target.Goals as goal

pub returns-in-Rva : goal.returns-in-Rva
unfolding target_members more member escape_byte
returns-in-Rva g c = rw c.in-Rva.is (ended c.write_number.ensures)
