use Rattle.std.proofs.Common.{rules}
use Rattle.pe_write.proofs.plan_headers.number_of_sections.Goals as goal

pub returns : goal.returns
returns c = search rules
