use Rattle.pe_json.proofs.Objects.{also}
use Rattle.pe_json.proofs.sections.write_members.Goals as goal

pub returns : goal.returns
returns g c = also _ _ c.write_long.ensures (also _ _ c.write_short.ensures c.write_fields.ensures)
