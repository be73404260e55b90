use Rattle.pe_json.proofs.Objects.{also}
use Rattle.pe_json.proofs.records.write_resources.Goals as goal

pub returns : goal.returns
returns g c =
    let leaves = rw c.requires.read at c.write_leaves.ensures in
    also _ _ leaves (also _ _ c.write_version.ensures c.write_manifest.ensures)
