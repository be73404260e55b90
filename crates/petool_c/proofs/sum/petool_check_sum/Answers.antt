use Rattle.std.proofs.Common.{Some, refl}
use Rattle.c_tables.proofs.Telling.{record_read, record_refused}
use Rattle.petool_c.proofs.sum.petool_check_sum.Goals as goal

pub returns-in-Ok : goal.returns-in-Ok
returns-in-Ok c = record_read _ (λ r. r) (Some _) _ _ _ _ c.in-Ok.ensures.0 (refl, c.in-Ok.ensures.1)

pub returns-in-Err : goal.returns-in-Err
returns-in-Err c = record_refused _ _ _ _ c.in-Err.first _ _ _ c.in-Err.ensures c.refuse.ensures.status c.refuse.ensures.told
