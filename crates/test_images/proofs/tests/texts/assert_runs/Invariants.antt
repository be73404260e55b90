use Rattle.pe_view.specs.View.{bytes_of}
use Rattle.pe_view.specs.TextEnds.{AreEndsOf}
use Rattle.test_images.proofs.tests.texts.assert_runs.Given as goal

abbrev pub invariant-loop-index : goal.invariant-loop-index
invariant-loop-index g l = AreEndsOf (bytes_of l.view) l.ends
