use Rattle.std.proofs.Common.{arith}
use Rattle.std.proofs.lemmas.Grind.{common_steps}
use Rattle.pe_set.proofs.module_names.forward_into.Goals as goal

pub returns-in_ok-extend_from_slice : goal.returns-in_ok-extend_from_slice
returns-in_ok-extend_from_slice g c = grind (arith, common_steps)
