use Rattle.std.proofs.Common.{arith}
use Rattle.pe_reach.proofs.Early.{too_large}
use Rattle.pe_reach.proofs.reach.size_fault.Goals as goal

pub returns-clause-fault : goal.returns-clause-fault
returns-clause-fault c = λ file size. too_large file (omega (arith, size, c.if-len-le-MOST.false))
