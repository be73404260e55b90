use Rattle.pe_space.specs.ByBase.{with_base}
use Rattle.pe_space.proofs.Ordering.{AreChanged}
use Rattle.pe_space.proofs.by_base.set_base.Given as goal

abbrev pub invariant-loop-at : goal.invariant-loop-at
invariant-loop-at l = AreChanged (with_base l.number l.base) l.fn.order l.at-items l.at-index
