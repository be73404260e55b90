use Rattle.pe_view.proofs.Numbers.{num-little}
use Rattle.pe_view.proofs.laws.num_is_little_endian.Goals as goal

pub returns : goal.returns
returns c = num-little
