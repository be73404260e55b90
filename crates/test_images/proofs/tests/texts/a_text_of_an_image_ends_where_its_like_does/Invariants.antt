use Rattle.pe_layout.specs.Layout.{file_of}
use Rattle.pe_view.specs.TextEnds.{AreEndsOf}
use Rattle.test_images.proofs.tests.texts.a_text_of_an_image_ends_where_its_like_does.Given as goal

abbrev pub invariant-loop-index : goal.invariant-loop-index
invariant-loop-index g l = AreEndsOf (file_of l.layout) l.ends
