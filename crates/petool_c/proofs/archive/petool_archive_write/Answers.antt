-- The buffer holds the archive, or the refusal is reported.
use Rattle.pe_records_c.proofs.Telling.{none_told, refusal_told, no_refusal, told_refuses, accepted_or_refused, early_none}
use Rattle.petool_c.proofs.archive.petool_archive_write.Goals as goal

pub returns-in-Ok-clause-faults : goal.returns-in-Ok-clause-faults
returns-in-Ok-clause-faults c =
    let accepted = no_refusal _ _ c.table_status.ensures in
    none_told _ _ _ _ c.in-Ok.ensures.exact.0 accepted.0 accepted.1

pub returns-in-Ok-clause-buffer_kept : goal.returns-in-Ok-clause-buffer_kept
returns-in-Ok-clause-buffer_kept c = λ refused. accepted_or_refused _ (no_refusal _ _ c.table_status.ensures) refused

pub returns-in-Ok-clause-count_kept : goal.returns-in-Ok-clause-count_kept
returns-in-Ok-clause-count_kept c = λ refused. accepted_or_refused _ (no_refusal _ _ c.table_status.ensures) refused

pub returns-in-Err-clause-faults : goal.returns-in-Err-clause-faults
returns-in-Err-clause-faults c = refusal_told _ _ c.in-Err.refusal _ _ _ c.in-Err.ensures.exact (λ e. early_none _ c.in-Err.refusal e c.in-Err.ensures.early) c.refuse_for.ensures

pub returns-in-Err-clause-written : goal.returns-in-Err-clause-written
returns-in-Err-clause-written c = λ accepted. told_refuses _ _ _ _ c.refuse_for.ensures accepted

pub returns-in-Err-clause-status : goal.returns-in-Err-clause-status
returns-in-Err-clause-status c = λ accepted. told_refuses _ _ _ _ c.refuse_for.ensures accepted
