use Rattle.std.proofs.Common.{codes, true}
use Rattle.pe_json.specs.JsonText.{number}
use Rattle.pe_json.specs.Line.{first_members}
use Rattle.pe_json.proofs.Objects.{whole_line}
use Rattle.pe_json.proofs.object.write_object.Goals as goal

pub returns : goal.returns
returns g c = whole_line (number (codes "schema") 1) (first_members c.args.name.now true) _ c.begin.ensures c.write_object_members.ensures c.text.ensures c.text-2.ensures
