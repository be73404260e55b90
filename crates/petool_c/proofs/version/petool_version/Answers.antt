-- What is told of the image holds for that of the file.
use Rattle.std.proofs.Common.{subst}
use Rattle.pe_layout.specs.Image.{LaidOut}
use Rattle.c_tables.specs.Told.{TellsRecord}
use Rattle.c_tables.proofs.Telling.{record_read, record_refused}
use Rattle.c_tables.specs.VersionRows.{version_told}
use Rattle.petool_c.proofs.version.petool_version.Goals as goal

pub returns-in-Ok : goal.returns-in-Ok
returns-in-Ok c =
    let laid = c.in-Ok.ensures in
    record_read _ (λ r. r) _ _ _ _ _ laid.0
    (subst (λ (i : LaidOut). TellsRecord (λ r. r) (version_told i) c.args.version.now c.tell_version.new.told c.tell_version.result) laid.1.shows c.tell_version.ensures)

pub returns-in-Err : goal.returns-in-Err
returns-in-Err c = record_refused _ _ _ _ c.in-Err.first _ _ _ c.in-Err.ensures c.refuse.ensures.status c.refuse.ensures.told
