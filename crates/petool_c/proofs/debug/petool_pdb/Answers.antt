-- What is told of the image holds for that of the file.
use Rattle.std.proofs.Common.{subst}
use Rattle.pe_layout.specs.Image.{LaidOut}
use Rattle.c_tables.specs.PdbRows.{pdb_of, pdb_text}
use Rattle.c_tables.specs.Told.{TellsRecord}
use Rattle.c_tables.proofs.Telling.{record_read, record_refused}
use Rattle.petool_c.proofs.debug.petool_pdb.Goals as goal

pub returns-in-Ok : goal.returns-in-Ok
returns-in-Ok c =
    let laid = c.in-Ok.ensures in
    record_read _ pdb_text _ _ _ _ _ laid.0
    (subst (λ (i : LaidOut). TellsRecord pdb_text (pdb_of i c.args.file.now) c.args.pdb.now c.tell_pdb.new.pdb c.tell_pdb.result) laid.1.shows c.tell_pdb.ensures)

pub returns-in-Err : goal.returns-in-Err
returns-in-Err c = record_refused _ _ _ _ c.in-Err.first _ _ _ c.in-Err.ensures c.refuse.ensures.status c.refuse.ensures.told
