use Rattle.pe_records_c.proofs.Names.{each_named}
use Rattle.pe_records_c.proofs.laws.each_name_has_an_ordinal.Goals as goal

pub returns : goal.returns
returns c = each_named
