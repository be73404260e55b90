use Rattle.pe_json.proofs.Objects.{also}
use Rattle.pe_json.proofs.image.write_profile.Goals as goal

pub returns : goal.returns
returns g c = also _ _ c.write_head.ensures (also _ _ c.write_export_table.ensures (also _ _ c.write_import_table.ensures c.write_relocation_table.ensures))
