use Rattle.json.specs.Print.{escape_byte}
use Rattle.pe_text.proofs.Adding.{◌then◌}
use Rattle.pe_json.specs.JsonText.{member, list}
use Rattle.pe_json.specs.Listed.{more}
use Rattle.pe_json.specs.VersionRows.{version_numbers}
use Rattle.pe_json.proofs.Objects.{ended}
use Rattle.pe_json.proofs.version.write_versions.Goals as goal

pub returns : goal.returns
unfolding version_numbers more member list escape_byte
returns g c = c.write_four_numbers.ensures then (ended c.write_four_numbers-2.ensures)
