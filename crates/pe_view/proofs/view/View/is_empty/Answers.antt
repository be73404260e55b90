use Rattle.std.proofs.Common.{rules}
use Rattle.pe_view.proofs.view.View.is_empty.Goals as goal

pub returns : goal.returns
returns c = search rules
