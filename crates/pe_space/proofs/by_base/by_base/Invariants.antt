use Rattle.std.proofs.Common.{map}
use Rattle.pe_space.proofs.Ordering.{AreFirst}
use Rattle.pe_space.proofs.by_base.by_base.Given as goal

abbrev pub invariant-loop-index : goal.invariant-loop-index
invariant-loop-index g l = AreFirst (map g.P.Placed.placement l.images) l.index l.order.items
