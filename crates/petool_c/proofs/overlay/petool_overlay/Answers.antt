-- What is told by the headers holds for the file.
use Rattle.std.proofs.Common.{◌∙◌, ℕ, List, Some, refl, ap}
use Rattle.c_tables.proofs.Telling.{record_read, record_refused}
use Rattle.c_tables.specs.FileRecords.{overlay_record}
use Rattle.petool_c.proofs.overlay.petool_overlay.Goals as goal

pub returns-in-Ok : goal.returns-in-Ok
returns-in-Ok c =
    let held = c.in-Ok.ensures in
    let of_file = ap (λ (bytes : List ℕ). overlay_record bytes c.in-Ok.headers) c.new.ensures ∙ ap (overlay_record c.args.file.now) held.1 in
    record_read _ (λ r. r) (Some _) _ _ _ _ held.0 (refl, c.overlay_record.ensures ∙ of_file)

pub returns-in-Err : goal.returns-in-Err
returns-in-Err c = record_refused _ _ _ _ c.in-Err.first _ _ _ c.in-Err.ensures c.refuse.ensures.status c.refuse.ensures.told
