-- What is told of the image holds for that of the file.
use Rattle.std.proofs.Common.{subst}
use Rattle.pe_layout.specs.Image.{LaidOut}
use Rattle.c_tables.specs.Told.{TellsRecord}
use Rattle.c_tables.proofs.Telling.{record_read, record_refused}
use Rattle.c_tables.specs.Texts.{text_bytes}
use Rattle.c_tables.specs.VersionRows.{value_of, version_strings}
use Rattle.petool_c.proofs.version.petool_version_string.Goals as goal

pub returns-in-Ok : goal.returns-in-Ok
returns-in-Ok c =
    let laid = c.in-Ok.ensures in
    let told = c.tell_version_string in
    record_read _ text_bytes _ _ _ _ _ laid.0
    (subst (λ (i : LaidOut). TellsRecord text_bytes (value_of c.args.key.now (version_strings i)) c.args.value.now told.new.text told.result) laid.1.shows told.ensures)

pub returns-in-Err : goal.returns-in-Err
returns-in-Err c = record_refused _ _ _ _ c.in-Err.first _ _ _ c.in-Err.ensures c.refuse.ensures.status c.refuse.ensures.told
