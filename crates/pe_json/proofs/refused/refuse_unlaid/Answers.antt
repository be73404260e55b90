use Rattle.std.proofs.Common.{codes, false}
use Rattle.pe_json.specs.JsonText.{number}
use Rattle.pe_json.specs.Line.{first_members}
use Rattle.pe_json.proofs.Objects.{also, whole_line}
use Rattle.pe_json.proofs.refused.refuse_unlaid.Goals as goal

pub returns : goal.returns
returns g c =
    let head = rw c.strings.ensures at c.write_head.ensures in
    whole_line (number (codes "schema") 1) (first_members c.args.image.name.now false) _ c.begin.ensures
    (also _ _ c.write_refusal.ensures (also _ _ head c.write_own.ensures))
    c.text.ensures c.text-2.ensures
