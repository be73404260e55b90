use Rattle.std.proofs.Common.{rules}
use Rattle.pe_layout.specs.Layout.{image_of}
use Rattle.pe_layout.proofs.layout.Layout.slot_width.Goals as goal

pub returns-clause-value : goal.returns-clause-value
unfolding image_of
returns-clause-value c = search rules
