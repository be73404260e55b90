use Rattle.pe_layout.proofs.Pieces.{located-plain}
use Rattle.pe_layout.proofs.laws.located_is_plain.Goals as goal

pub returns : goal.returns
returns c = located-plain
