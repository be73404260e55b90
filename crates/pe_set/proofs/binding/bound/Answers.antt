use Rattle.std.proofs.Common.{rules}
use Rattle.pe_set.proofs.binding.bound.Goals as goal

pub returns-in-Unknown : goal.returns-in-Unknown
returns-in-Unknown c = search rules
