use Rattle.pe_numbers.specs.ReadBack.{number_read}
use Rattle.pe_numbers.proofs.laws.numbers_are_read_back.Goals as goal

pub returns : goal.returns
returns c = number_read
