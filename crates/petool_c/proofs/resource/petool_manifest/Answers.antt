-- What is told of the image holds for that of the file.
use Rattle.std.proofs.Common.{subst}
use Rattle.pe_layout.specs.Image.{LaidOut}
use Rattle.c_tables.specs.Told.{TellsRecord}
use Rattle.c_tables.proofs.Telling.{record_read, record_refused}
use Rattle.c_tables.specs.Kinds.{manifest_data}
use Rattle.c_tables.specs.Texts.{text_bytes}
use Rattle.petool_c.proofs.resource.petool_manifest.Goals as goal

pub returns-in-Ok : goal.returns-in-Ok
returns-in-Ok c =
    let laid = c.in-Ok.ensures in
    record_read _ text_bytes _ _ _ _ _ laid.0
    (subst (λ (i : LaidOut). TellsRecord text_bytes (manifest_data i) c.args.manifest.now c.tell_manifest.new.text c.tell_manifest.result) laid.1.shows c.tell_manifest.ensures)

pub returns-in-Err : goal.returns-in-Err
returns-in-Err c = record_refused _ _ _ _ c.in-Err.first _ _ _ c.in-Err.ensures c.refuse.ensures.status c.refuse.ensures.told
