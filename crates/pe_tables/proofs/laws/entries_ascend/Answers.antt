use Rattle.pe_tables.proofs.Rising.{ascend}
use Rattle.pe_tables.proofs.laws.entries_ascend.Goals as goal

pub returns : goal.returns
returns c = ascend
