use Rattle.std.proofs.Common.{codes}
use Rattle.json.specs.Print.{escape_byte}
use Rattle.pe_json.specs.JsonText.{member, number}
use Rattle.pe_json.proofs.Objects.{also, objects}
use Rattle.pe_json.proofs.resources.write_leaf.Goals as goal

pub returns : goal.returns
unfolding member escape_byte
returns g c = objects (number (codes "rva") c.args.leaf.now.rva) _ c.write_number.ensures (also _ _ c.write_numbers.ensures c.write_names.ensures) c.text.ensures
