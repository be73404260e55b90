use Rattle.json.specs.Print.{escape_byte}
use Rattle.pe_json.specs.JsonText.{member}
use Rattle.pe_json.specs.Listed.{more}
use Rattle.pe_json.specs.Headers.{base_of_data_members}
use Rattle.pe_json.proofs.Objects.{ended, adds_none}
use Rattle.pe_json.proofs.optional_header.write_base_of_data.Goals as goal

pub returns-in-Some : goal.returns-in-Some
unfolding base_of_data_members more member escape_byte
returns-in-Some g c = rw c.in-Some.is (ended c.write_number.ensures)

pub returns-in_default : goal.returns-in_default
unfolding base_of_data_members more
returns-in_default g c = rw c.in_default.is (adds_none c.requires)
