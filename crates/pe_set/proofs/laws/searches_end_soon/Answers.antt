use Rattle.pe_set.proofs.Ending.{soon, ends_soon}
use Rattle.pe_set.proofs.laws.searches_end_soon.Goals as goal

pub returns-clause-within : goal.returns-clause-within
returns-clause-within c = soon

pub returns-clause-ends : goal.returns-clause-ends
returns-clause-ends c = ends_soon
