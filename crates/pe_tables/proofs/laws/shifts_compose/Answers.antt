use Rattle.pe_tables.proofs.Shifts.{shift-add, shift-whole}
use Rattle.pe_tables.proofs.laws.shifts_compose.Goals as goal

pub returns-clause-whole : goal.returns-clause-whole
returns-clause-whole c = shift-whole

pub returns-clause-others : goal.returns-clause-others
returns-clause-others c = shift-add
