-- The rows are those of the set's bindings, or its first error is reported.
use Rattle.std.proofs.Common.{◌∙◌}
use Rattle.std.proofs.lemmas.List.{map-id}
use Rattle.pe_records_c.specs.SetRows.{binding_row}
use Rattle.pe_records_c.proofs.Judging.{error_told, told_not_accepted, none_judged}
use Rattle.pe_records_c.proofs.Rows.{table_told}
use Rattle.pe_records_c.proofs.Telling.{no_refusal, accepted_or_refused}
use Rattle.petool_c.proofs.set.petool_judge.Goals as goal

pub returns-in-Ok-clause-faults : goal.returns-in-Ok-clause-faults
returns-in-Ok-clause-faults c = none_judged _ _ _ _ c.in-Ok.ensures.exact.0 (no_refusal _ _ c.put_table.ensures.status).0

pub returns-in-Ok-clause-table : goal.returns-in-Ok-clause-table
returns-in-Ok-clause-table c = λ _.
    let told = c.put_table.ensures in
    table_told (λ r. r) (λ x. x) binding_row _ _ _ _ _ _ (map-id _ ∙ c.as_slice.ensures.value ∙ c.in-Ok.ensures.exact.1.bindings) told.rows told.count told.status

pub returns-in-Ok-clause-rows_kept : goal.returns-in-Ok-clause-rows_kept
returns-in-Ok-clause-rows_kept c = λ refused. accepted_or_refused _ (no_refusal _ _ c.put_table.ensures.status) refused

pub returns-in-Ok-clause-count_kept : goal.returns-in-Ok-clause-count_kept
returns-in-Ok-clause-count_kept c = λ refused. accepted_or_refused _ (no_refusal _ _ c.put_table.ensures.status) refused

pub returns-in-Err-clause-faults : goal.returns-in-Err-clause-faults
returns-in-Err-clause-faults c = error_told _ c.in-Err.error _ _ _ _ _ c.in-Err.ensures.exact c.refuse_set.ensures

pub returns-in-Err-clause-table : goal.returns-in-Err-clause-table
returns-in-Err-clause-table c = λ accepted. told_not_accepted _ _ _ _ _ _ c.refuse_set.ensures accepted
