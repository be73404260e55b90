use Rattle.pe_set.proofs.DelayedBases.{delayed_accepted_at, delayed_accepted_moved}
use Rattle.pe_set.proofs.laws.delayed_sets_stay_accepted.Goals as goal

pub returns-clause-placed : goal.returns-clause-placed
returns-clause-placed c = delayed_accepted_at

pub returns-clause-moved : goal.returns-clause-moved
returns-clause-moved c = delayed_accepted_moved
