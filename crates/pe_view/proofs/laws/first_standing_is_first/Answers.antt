use Rattle.pe_view.proofs.Standing.{first_is_first}
use Rattle.pe_view.proofs.laws.first_standing_is_first.Goals as goal

pub returns : goal.returns
returns c = first_is_first
