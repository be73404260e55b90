use Rattle.pe_view.proofs.Numbers.{digit-num}
use Rattle.pe_view.proofs.laws.digits_are_bytes.Goals as goal

pub returns : goal.returns
returns c = digit-num
