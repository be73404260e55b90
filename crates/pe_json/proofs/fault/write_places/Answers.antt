use Rattle.json.specs.Print.{escape_byte}
use Rattle.pe_text.proofs.Adding.{◌then◌}
use Rattle.pe_json.specs.JsonText.{member}
use Rattle.pe_json.specs.Listed.{more}
use Rattle.pe_json.specs.Refused.{place_members}
use Rattle.pe_json.proofs.Objects.{ended}
use Rattle.pe_json.proofs.fault.write_places.Goals as goal

pub returns : goal.returns
unfolding place_members more member escape_byte
returns g c = c.write_number.ensures then ended (c.text.ensures then c.write_place.ensures)
