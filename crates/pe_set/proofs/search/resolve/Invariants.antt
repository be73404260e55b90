use Rattle.pe_set.specs.SetView.{modules_view}
use Rattle.pe_set.specs.EndsView.{AreEnds}
use Rattle.pe_set.proofs.search.resolve.Given as goal

abbrev pub invariant-loop-at : goal.invariant-loop-at
invariant-loop-at g l = AreEnds (modules_view l.modules) l.ends
