use Rattle.pe_tables.proofs.ExportPlaces.{ordinals-ascend, names-apart}
use Rattle.pe_tables.proofs.laws.keys_export_once.Goals as goal

pub returns-clause-ordinals : goal.returns-clause-ordinals
returns-clause-ordinals c = ordinals-ascend

pub returns-clause-names : goal.returns-clause-names
returns-clause-names c = names-apart
