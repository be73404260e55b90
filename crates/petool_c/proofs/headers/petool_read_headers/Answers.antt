use Rattle.pe_records_c.proofs.Telling.{fault_told, none_refused}
use Rattle.petool_c.proofs.headers.petool_read_headers.Goals as goal

pub returns-in-Err-clause-refused : goal.returns-in-Err-clause-refused
returns-in-Err-clause-refused c = fault_told _ c.in-Err.first _ _ _ c.in-Err.ensures c.refuse.ensures.status c.refuse.ensures.told

pub returns-clause-refused : goal.returns-clause-refused
returns-clause-refused c = none_refused _ _ _ c.in-Ok.ensures.0 (λ one. absurd cc one)
