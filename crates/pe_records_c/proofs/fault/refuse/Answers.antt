use Rattle.std.proofs.Common.{rules}
use Rattle.pe_records_c.proofs.fault.refuse.Goals as goal

pub returns-clause-told : goal.returns-clause-told
returns-clause-told c = search rules
