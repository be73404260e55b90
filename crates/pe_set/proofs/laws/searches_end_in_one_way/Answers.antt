use Rattle.pe_set.proofs.Ending.{ends, ends_once}
use Rattle.pe_set.proofs.laws.searches_end_in_one_way.Goals as goal

pub returns-clause-ends : goal.returns-clause-ends
returns-clause-ends c = ends

pub returns-clause-one : goal.returns-clause-one
returns-clause-one c = ends_once
