use Rattle.std.proofs.Common.{take}
use Rattle.pe_resource_files.specs.ById.{IsById}
use Rattle.pe_resource_files.proofs.by_id.firsts_of.Given as goal

abbrev pub invariant-loop-leaf : goal.invariant-loop-leaf
invariant-loop-leaf g l = IsById l.fn.kind (take l.leaf-index l.leaves) l.firsts.items
