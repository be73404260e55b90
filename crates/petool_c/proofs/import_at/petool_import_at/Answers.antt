-- The reported import is that of the image's imports.
use Rattle.std.proofs.Common.{List, map, ap, subst, Err, ◌∙◌}
use Rattle.pe_tables.specs.ImportView.{import_view}
use Rattle.pe_tables.specs.Imports.{Import}
use Rattle.pe_records_c.specs.ImportRows.{import_of_slot, TellsImport}
use Rattle.pe_records_c.proofs.Telling.{refusal_told, told_refuses, import_answered, import_kept}
use Rattle.petool_c.proofs.import_at.petool_import_at.Goals as goal

pub returns-in-Ok-clause-faults : goal.returns-in-Ok-clause-faults
returns-in-Ok-clause-faults c = import_answered _ _ _ _ _ _ _ c.in-Ok.ensures.exact.0 c.put_import.ensures

pub returns-in-Ok-clause-found : goal.returns-in-Ok-clause-found
returns-in-Ok-clause-found c = λ _.
    subst (λ (xs : List Import). TellsImport (import_of_slot xs c.args.slot) c.args.found.now c.put_import.new.told c.put_import.result)
    (ap (map import_view) c.as_slice.ensures.value ∙ c.in-Ok.ensures.exact.1) c.put_import.ensures

pub returns-in-Ok-clause-kept : goal.returns-in-Ok-clause-kept
returns-in-Ok-clause-kept c = λ refused. import_kept _ _ _ _ c.put_import.ensures refused

pub returns-in-Err-clause-faults : goal.returns-in-Err-clause-faults
returns-in-Err-clause-faults c = refusal_told _ _ c.in-Err.refusal _ _ _ c.in-Err.ensures.exact (λ e. c.in-Err.ensures.memory (ap Err e)) c.refuse_for.ensures

pub returns-in-Err-clause-found : goal.returns-in-Err-clause-found
returns-in-Err-clause-found c = λ accepted. told_refuses _ _ _ _ c.refuse_for.ensures accepted
