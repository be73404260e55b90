use Rattle.pe_tables.proofs.Targets.{target_fits}
use Rattle.pe_tables.proofs.laws.targets_are_inside.Goals as goal

pub returns : goal.returns
returns c = target_fits
