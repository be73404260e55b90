use Rattle.pe_tables.proofs.Shifts.{floor_greatest}
use Rattle.pe_tables.proofs.laws.high_amounts_are_greatest.Goals as goal

pub returns : goal.returns
returns c = floor_greatest
