-- No error, or the first one, which is reported.
use Rattle.pe_records_c.proofs.Judging.{error_told, none_judged}
use Rattle.petool_c.proofs.space.petool_space_open.Goals as goal

pub returns-in-Ok-clause-faults : goal.returns-in-Ok-clause-faults
returns-in-Ok-clause-faults c = none_judged _ _ _ _ c.in-Ok.ensures.exact.0 (λ one. absurd cc one)

pub returns-in-Err-clause-faults : goal.returns-in-Err-clause-faults
returns-in-Err-clause-faults c = error_told _ c.in-Err.error _ _ _ _ _ c.in-Err.ensures.exact c.refuse_set.ensures
