use Rattle.std.proofs.Common.{codes}
use Rattle.json.specs.Print.{escape_byte}
use Rattle.pe_json.specs.JsonText.{member, number}
use Rattle.pe_json.specs.Listed.{more}
use Rattle.pe_json.proofs.Objects.{ended, objects}
use Rattle.pe_json.proofs.functions.ArmFunctionRow.write.Goals as goal

pub returns : goal.returns
unfolding more member escape_byte
returns g c = objects (number (codes "begin") c.args.self.now.begin) _ c.write_number.ensures (ended c.write_number-2.ensures) c.text.ensures
