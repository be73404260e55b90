use Rattle.std.proofs.Common.{rules}
use Rattle.pe_write.proofs.plan_faults.check.Goals as goal

pub returns-then-stands : goal.returns-then-stands
returns-then-stands c = search rules
