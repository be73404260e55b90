use Rattle.std.proofs.Common.{rules}
use Rattle.pe_view.proofs.view.View.len.Goals as goal

pub returns : goal.returns
returns c = search rules
