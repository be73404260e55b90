-- A set that is refused leaves the space closed.
use Rattle.std.proofs.Common.{rules}
use Rattle.pe_records_c.proofs.space.open_into.Goals as goal

pub returns-in_err-opened-clause-open : goal.returns-in_err-opened-clause-open
returns-in_err-opened-clause-open c = search rules

pub returns-in_err-opened-clause-none : goal.returns-in_err-opened-clause-none
returns-in_err-opened-clause-none c = search rules
