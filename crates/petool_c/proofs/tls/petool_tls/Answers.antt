-- What is told of the image holds for that of the file.
use Rattle.std.proofs.Common.{option_map, subst}
use Rattle.pe_layout.specs.Image.{LaidOut}
use Rattle.pe_records.specs.TlsFields.{tls_of}
use Rattle.c_tables.specs.TlsRows.{tls_record}
use Rattle.c_tables.specs.Told.{TellsRecord}
use Rattle.c_tables.proofs.Telling.{record_read, record_refused}
use Rattle.petool_c.proofs.tls.petool_tls.Goals as goal

pub returns-in-Ok : goal.returns-in-Ok
returns-in-Ok c =
    let laid = c.in-Ok.ensures in
    record_read _ (λ r. r) _ _ _ _ _ laid.0
    (subst (λ (i : LaidOut). TellsRecord (λ r. r) (option_map tls_record (tls_of i)) c.args.tls.now c.tell_tls.new.told c.tell_tls.result) laid.1.shows c.tell_tls.ensures)

pub returns-in-Err : goal.returns-in-Err
returns-in-Err c = record_refused _ _ _ _ c.in-Err.first _ _ _ c.in-Err.ensures c.refuse.ensures.status c.refuse.ensures.told
