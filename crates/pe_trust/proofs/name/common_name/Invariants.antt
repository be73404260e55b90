use Rattle.std.proofs.Common.{◌≡◌, length}
use Rattle.pe_trust.specs.Names.{common_name_of}
use Rattle.pe_trust.proofs.name.common_name.Given as goal

abbrev pub invariant-loop-set : goal.invariant-loop-set
invariant-loop-set l = common_name_of l.sets ≡ common_name_of l.fn.name

abbrev pub decreases-loop-set : goal.decreases-loop-set
decreases-loop-set l = length l.sets
