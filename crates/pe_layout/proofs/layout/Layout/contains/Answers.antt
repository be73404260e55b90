use Rattle.std.proofs.Common.{rules}
use Rattle.pe_layout.specs.Layout.{image_of}
use Rattle.pe_layout.proofs.layout.Layout.contains.Goals as goal

pub returns-then-len-size-clause-value : goal.returns-then-len-size-clause-value
unfolding image_of
returns-then-len-size-clause-value c = search rules

pub returns-then-len-size-clause-small : goal.returns-then-len-size-clause-small
unfolding image_of
returns-then-len-size-clause-small c = search rules
