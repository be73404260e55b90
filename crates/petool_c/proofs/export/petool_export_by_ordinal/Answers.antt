-- The reported target is that of the image's exports.
use Rattle.std.proofs.Common.{ap, subst, Err, Option, ◌∙◌}
use Rattle.pe_tables.specs.Exports.{target_at}
use Rattle.pe_tables.specs.Key.{Target, Ordinal}
use Rattle.pe_records_c.specs.ExportRows.{TellsTarget}
use Rattle.pe_records_c.proofs.Telling.{refusal_told, told_refuses, target_answered, target_kept}
use Rattle.petool_c.proofs.export.petool_export_by_ordinal.Goals as goal

pub returns-in-Ok-clause-faults : goal.returns-in-Ok-clause-faults
returns-in-Ok-clause-faults c = target_answered _ _ _ _ _ _ _ c.in-Ok.ensures.exact.0 c.put_target.ensures

pub returns-in-Ok-clause-target : goal.returns-in-Ok-clause-target
returns-in-Ok-clause-target c = λ _.
    let said = c.export_at.ensures ∙ ap (λ e. target_at e (Ordinal c.args.ordinal)) c.in-Ok.ensures.exact.1 in
    subst (λ (t : Option Target). TellsTarget t c.args.target.now c.put_target.new.told c.put_target.result) said c.put_target.ensures

pub returns-in-Ok-clause-kept : goal.returns-in-Ok-clause-kept
returns-in-Ok-clause-kept c = λ refused. target_kept _ _ _ _ c.put_target.ensures refused

pub returns-in-Err-clause-faults : goal.returns-in-Err-clause-faults
returns-in-Err-clause-faults c = refusal_told _ _ c.in-Err.refusal _ _ _ c.in-Err.ensures.exact (λ e. c.in-Err.ensures.memory (ap Err e)) c.refuse_for.ensures

pub returns-in-Err-clause-target : goal.returns-in-Err-clause-target
returns-in-Err-clause-target c = λ accepted. told_refuses _ _ _ _ c.refuse_for.ensures accepted
