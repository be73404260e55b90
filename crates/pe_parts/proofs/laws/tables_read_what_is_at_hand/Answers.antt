use Rattle.pe_parts.proofs.ReadTables.{tables_agree}
use Rattle.pe_parts.proofs.laws.tables_read_what_is_at_hand.Goals as goal

pub returns : goal.returns
returns c = tables_agree
