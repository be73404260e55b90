use Rattle.std.proofs.Common.{codes, false}
use Rattle.pe_json.specs.JsonText.{number}
use Rattle.pe_json.specs.Line.{first_members}
use Rattle.pe_json.proofs.Objects.{also, whole_line}
use Rattle.pe_json.proofs.refused.refuse_laid_out.Goals as goal

pub returns : goal.returns
returns g c =
    let head = rw c.strings.ensures at c.write_head.ensures in
    let tables = also _ _ c.write_exports_if.ensures (also _ _ c.write_imports_if.ensures c.write_fixups_if.ensures) in
    let own = rw c.imports_read.ensures at c.write_own.ensures in
    whole_line (number (codes "schema") 1) (first_members c.args.image.name.now false) _ c.begin.ensures
    (also _ _ c.write_refusal.ensures (also _ _ (also _ _ head tables) own))
    c.text.ensures c.text-2.ensures
