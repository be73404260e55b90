use Rattle.std.proofs.Common.{rules}
use Rattle.pe_view.proofs.refusal.RefusalFromFault.from.Goals as goal

pub returns : goal.returns
returns c = search rules
