use Rattle.std.proofs.Common.{[], ◌∷◌, codes}
use Rattle.pe_json.specs.JsonText.{name, number}
use Rattle.pe_json.proofs.Objects.{also, whole_line}
use Rattle.coff_archive_json.proofs.archive_line.write_archive_line.Goals as goal

pub returns : goal.returns
returns g c =
    whole_line (number (codes "schema") 1) (name (codes "archive") c.args.name.now ∷ []) _ c.begin.ensures (also _ _ c.write_verdict.ensures c.write_members.ensures) c.text.ensures c.text-2.ensures
