use Rattle.pe_records_c.proofs.Telling.{fault_told}
use Rattle.petool_c.proofs.image.petool_locate.Goals as goal

pub returns-in-Err-clause-refused : goal.returns-in-Err-clause-refused
returns-in-Err-clause-refused c = fault_told _ c.in-Err.first _ _ _ c.in-Err.ensures c.refuse.ensures.status c.refuse.ensures.told
