use Rattle.pe_set.proofs.CycleErrors.{set_cycle}
use Rattle.pe_set.proofs.laws.cycles_are_of_endless_searches.Goals as goal

pub returns : goal.returns
returns c = set_cycle
