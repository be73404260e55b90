use Rattle.std.proofs.Common.{rules}
use Rattle.pe_layout.proofs.section_faults.check_section.Goals as goal

pub returns-then-from-rawlen : goal.returns-then-from-rawlen
returns-then-from-rawlen c = search rules
