use Rattle.pe_view.proofs.Standing.{none_iff}
use Rattle.pe_view.proofs.laws.no_first_where_none_stands.Goals as goal

pub returns : goal.returns
returns c = none_iff
