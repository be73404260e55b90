use Rattle.json.specs.Print.{escape_byte}
use Rattle.pe_text.proofs.Adding.{◌then◌}
use Rattle.pe_json.specs.JsonText.{member, list}
use Rattle.pe_json.specs.Listed.{more}
use Rattle.pe_json.specs.Headers.{place_members}
use Rattle.pe_json.proofs.Objects.{ended}
use Rattle.pe_json.proofs.directories.write_place.Goals as goal

pub returns : goal.returns
unfolding place_members more member list escape_byte
returns g c =
    c.write_number.ensures then (ended c.write_number-2.ensures)
