use Rattle.pe_head.specs.Accepted.{image_base_number}
use Rattle.pe_head.proofs.laws.image_base_stands.Goals as goal

pub returns : goal.returns
returns c = image_base_number
