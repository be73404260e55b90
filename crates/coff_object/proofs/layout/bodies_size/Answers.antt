-- All items are counted.
use Rattle.std.proofs.Common.{length, refl}
use Rattle.std.specs.Prelude.{map}
use Rattle.std.specs.List.{flat_map}
use Rattle.coff_read.specs.ObjectView.{section_view}
use Rattle.coff_object.specs.Written.{section_body}
use Rattle.coff_object.proofs.Sizes.{all_counted}
use Rattle.coff_object.proofs.layout.bodies_size.Goals as goal

pub returns : goal.returns
returns g c = all_counted (λ xs. length (flat_map section_body (map section_view xs))) c.args.sections.now c.loop-section.section-index _ _ c.loop-section-test.false c.loop-section.invariant.small refl c.loop-section.invariant.sum
