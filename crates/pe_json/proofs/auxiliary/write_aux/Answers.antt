use Rattle.std.proofs.Common.{codes}
use Rattle.json.specs.Print.{escape_byte}
use Rattle.pe_json.specs.JsonText.{member, number}
use Rattle.pe_json.proofs.Objects.{objects}
use Rattle.pe_json.proofs.auxiliary.write_aux.Goals as goal

pub returns : goal.returns
unfolding member escape_byte
returns g c = objects (number (codes "index") c.args.index) _ c.write_number.ensures c.write_either_fields.ensures c.text.ensures
