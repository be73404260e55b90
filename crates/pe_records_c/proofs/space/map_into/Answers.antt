-- A set that is refused leaves the space closed.
use Rattle.std.proofs.Common.{rules}
use Rattle.pe_records_c.proofs.space.map_into.Goals as goal

pub returns-in_err-mapped-clause-open : goal.returns-in_err-mapped-clause-open
returns-in_err-mapped-clause-open c = search rules

pub returns-in_err-mapped-clause-none : goal.returns-in_err-mapped-clause-none
returns-in_err-mapped-clause-none c = search rules
