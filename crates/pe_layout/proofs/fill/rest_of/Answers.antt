use Rattle.std.proofs.Common.{rules}
use Rattle.pe_layout.proofs.fill.rest_of.Goals as goal

pub returns-then-offset-rawlen : goal.returns-then-offset-rawlen
returns-then-offset-rawlen c = search rules
