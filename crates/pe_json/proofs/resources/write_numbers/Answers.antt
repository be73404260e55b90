use Rattle.json.specs.Print.{escape_byte}
use Rattle.pe_text.proofs.Adding.{◌then◌}
use Rattle.pe_json.specs.JsonText.{member}
use Rattle.pe_json.specs.Listed.{more}
use Rattle.pe_json.specs.ResourceRows.{leaf_numbers}
use Rattle.pe_json.proofs.Objects.{ended}
use Rattle.pe_json.proofs.resources.write_numbers.Goals as goal

pub returns : goal.returns
unfolding leaf_numbers more member escape_byte
returns g c = c.write_number.ensures then (ended c.write_number-2.ensures)
