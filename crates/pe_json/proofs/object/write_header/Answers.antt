use Rattle.pe_text.proofs.Adding.{◌then◌}
use Rattle.pe_json.specs.JsonText.{object}
use Rattle.pe_json.proofs.object.write_header.Goals as goal

pub returns : goal.returns
unfolding object
returns g c = c.text.ensures then c.write_fields.ensures then c.text-2.ensures
