use Rattle.json.specs.Print.{escape_byte}
use Rattle.pe_text.proofs.Adding.{◌then◌}
use Rattle.pe_json.specs.JsonText.{member}
use Rattle.pe_json.specs.Listed.{more}
use Rattle.pe_json.specs.Refused.{fault_members}
use Rattle.pe_json.proofs.Objects.{ended}
use Rattle.pe_json.proofs.fault.write_fault.Goals as goal

pub returns : goal.returns
unfolding fault_members more member escape_byte
returns g c = ended (c.text.ensures then c.write_object.ensures)
