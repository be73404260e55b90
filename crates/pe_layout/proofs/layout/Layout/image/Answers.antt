use Rattle.std.proofs.Common.{rules}
use Rattle.pe_layout.specs.Layout.{image_of}
use Rattle.pe_layout.proofs.layout.Layout.image.Goals as goal

pub returns : goal.returns
unfolding image_of
returns c = search rules
