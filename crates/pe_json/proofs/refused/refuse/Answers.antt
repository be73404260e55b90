use Rattle.std.proofs.Common.{codes, false}
use Rattle.pe_json.specs.JsonText.{number}
use Rattle.pe_json.specs.Line.{first_members}
use Rattle.pe_json.proofs.Objects.{whole_line, also_none}
use Rattle.pe_json.proofs.refused.refuse.Goals as goal

pub returns : goal.returns
returns g c =
    whole_line (number (codes "schema") 1) (first_members c.args.name.now false) _ c.begin.ensures
    (also_none _ c.write_refusal.ensures)
    c.text.ensures c.text-2.ensures
