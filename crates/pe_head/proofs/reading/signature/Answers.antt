use Rattle.std.proofs.Common.{rules}
use Rattle.pe_head.specs.HeaderFaults.{head_tests}
use Rattle.pe_head.proofs.reading.signature.Goals as goal

pub returns-then-len-lt64-clause-exact : goal.returns-then-len-lt64-clause-exact
unfolding head_tests
returns-then-len-lt64-clause-exact c = search rules
