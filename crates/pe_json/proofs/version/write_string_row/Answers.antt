use Rattle.json.specs.Print.{escape_byte}
use Rattle.pe_text.proofs.Adding.{◌then◌}
use Rattle.pe_json.specs.JsonText.{member, object, with_commas}
use Rattle.pe_json.proofs.version.write_string_row.Goals as goal

pub returns : goal.returns
unfolding object with_commas member escape_byte
returns g c =
    (c.text.ensures then c.write_units.ensures)
    then (c.text-2.ensures then c.write_units-2.ensures)
    then c.text-3.ensures
