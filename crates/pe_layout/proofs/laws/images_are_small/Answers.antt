use Rattle.pe_layout.proofs.Accepted.{image_small}
use Rattle.pe_layout.proofs.laws.images_are_small.Goals as goal

pub returns : goal.returns
returns c = image_small
