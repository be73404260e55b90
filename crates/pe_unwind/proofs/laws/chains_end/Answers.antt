use Rattle.pe_unwind.proofs.Chained.{chain_few}
use Rattle.pe_unwind.proofs.laws.chains_end.Goals as goal

pub returns : goal.returns
returns c = λ i f. chain_few i 31 f
