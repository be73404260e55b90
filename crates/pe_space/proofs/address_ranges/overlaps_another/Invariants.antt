use Rattle.std.proofs.Common.{List}
use Rattle.pe_space.specs.declared.by_base.NumberAt.{NumberAt}
use Rattle.pe_space.proofs.Ordering.{AreUpTo, AllButOwn}
use Rattle.pe_space.proofs.address_ranges.overlaps_another.Given as goal

abbrev pub invariant-loop-at : goal.invariant-loop-at
invariant-loop-at g l = (near : List NumberAt) × AreUpTo l.order near l.last × AllButOwn l.number near l.at-iterator.iter.rest.now
