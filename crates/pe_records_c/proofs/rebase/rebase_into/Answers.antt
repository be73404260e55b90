-- The buffer holds the rebased file, or the refusal is reported.
use Rattle.std.proofs.Common.{refl}
use Rattle.pe_records_c.proofs.Telling.{done_told, refusal_told, told_refuses, early_none}
use Rattle.pe_records_c.proofs.rebase.rebase_into.Goals as goal

pub returns-in-Ok-clause-faults : goal.returns-in-Ok-clause-faults
returns-in-Ok-clause-faults c = done_told _ _ _ c.in-Ok.ensures.exact.0

pub returns-in-Err-clause-faults : goal.returns-in-Err-clause-faults
returns-in-Err-clause-faults c = refusal_told _ _ c.in-Err.refusal _ _ _ c.in-Err.ensures.exact (λ e. early_none _ c.in-Err.refusal e c.in-Err.ensures.early) c.refuse_for.ensures

pub returns-in-Err-clause-accepted : goal.returns-in-Err-clause-accepted
returns-in-Err-clause-accepted c = λ accepted. told_refuses _ _ _ _ c.refuse_for.ensures accepted

pub returns-in-Err-clause-kept : goal.returns-in-Err-clause-kept
returns-in-Err-clause-kept c = λ _. refl
