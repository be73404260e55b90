use Rattle.std.proofs.Common.{rules}
use Rattle.pe_head.proofs.section.SectionHeader.rawlen.Goals as goal

pub returns-else-self-eq0 : goal.returns-else-self-eq0
returns-else-self-eq0 c = search rules
