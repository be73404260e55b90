use Rattle.pe_json.proofs.Objects.{also}
use Rattle.pe_json.proofs.resources.write_names.Goals as goal

pub returns : goal.returns
returns g c = also _ _ c.write_level.ensures (also _ _ c.write_level-2.ensures c.write_level-3.ensures)
