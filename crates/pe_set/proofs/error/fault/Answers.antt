use Rattle.std.proofs.Common.{rules}
use Rattle.pe_set.proofs.error.fault.Goals as goal

pub returns : goal.returns
returns c = search rules
