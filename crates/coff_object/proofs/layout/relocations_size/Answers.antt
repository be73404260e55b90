-- Ten bytes each.
use Rattle.std.proofs.Common.{◌∙◌}
use Rattle.coff_object.proofs.Sizes.{relocations_counted}
use Rattle.coff_object.proofs.layout.relocations_size.Goals as goal

pub returns : goal.returns
returns c = c.saturating_mul.ensures ∙ relocations_counted c.args.relocations.now
