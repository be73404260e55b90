use Rattle.std.proofs.Common.{rules}
use Rattle.pe_records_c.proofs.fault.refuse_for.Goals as goal

pub returns-in-Memory : goal.returns-in-Memory
returns-in-Memory c = search rules
